-- The base that an entry refers to.
use Rattle.std.proofs.Common.{◌≡◌, ℕ, ◌<◌, List, length, get_or, refl, sym, ap, subst, ◌∙◌}
use Rattle.std.specs.Prelude.{slice_get, unwrap_or, option_map, All}
use Rattle.std.proofs.lemmas.Option.{slice_get_read}
use Rattle.roster_model.specs.records.Base.{Base, base_at}

-- what is known of the base b that the entry at place k refers to: it is there, and what is read there
-- is the entry's base
pub record IsBaseOf {X : Type 0} (base_of : X → ℕ) (bases : List Base) (entries : List X)
    (k b : ℕ) : Type 0 where
  pub within : b < length bases
  pub read : (base : Base) → base ≡ get_or bases b base
      → base ≡ base_at bases (unwrap_or (option_map base_of (slice_get entries k)) 0)

pub base_of_entry : {X : Type 0} (base_of : X → ℕ) (bases : List Base) (entries : List X) (k b : ℕ) (entry : X) → All (λ x. base_of x < length bases) entries → k < length entries → entry ≡ get_or entries k entry → base_of entry ≡ b → IsBaseOf base_of bases entries k b
base_of_entry base_of bases entries k b entry known inside at same =
    let within : b < length bases =
    subst (λ n. n < length bases) (sym (ap base_of at) ∙ same) (known k entry inside) in
    record {
      within = within;
      read = λ base there. rw (slice_get_read entries (length entries) k entry refl inside at, same, slice_get_read bases (length bases) b base refl within there) refl;
    }
