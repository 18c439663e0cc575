-- The root holds all legal rosters, and where nobody is there only one is legal.
use Rattle.std.proofs.Common.{◌≡◌, ℕ, suc, ◌<◌, ◌≤◌, List, [], ◌∷◌, length, map, replicate, get_or, refl, sym, ap₂, ◌∙◌, subst, arith}
use Rattle.std.specs.Prelude.{All, true}
use Rattle.std.proofs.lemmas.List.{length-map}
use Rattle.std.proofs.lemmas.Option.{none-some, slice_get_within, slice_get-get_or}
use Rattle.roster_model.specs.Problem.{Problem}
use Rattle.roster_model.specs.Places.{set_of}
use Rattle.roster_model.specs.Rosters.{IsLegalRoster, Key, key_of, key_le}
use Rattle.roster_model.specs.Settled.{IsBest}
use Rattle.roster_model.proofs.KeyLemmas.{key_le-refl}
use Rattle.roster_model.proofs.RosterLemmas.{all_open_legal}
use Rattle.roster_model.proofs.SettledLemmas.{held-key}
use Rattle.roster_lines_table.specs.Entries.{Entry, sets_of}
use Rattle.roster_lines_table.specs.Person.{lines_at, IsTableOf}
use Rattle.roster_lines_table.proofs.Numbers.{AreNumbersOf-exist}
use Rattle.roster_subtreepool_spans.specs.Spans.{IsInSpan, Span}
use Rattle.roster_combine_workers.specs.Parts.{IsBestKey, IsSettled}
use Rattle.roster_lines_table.proofs.TableLemmas.{sets_at}

-- ---- somebody is there

-- the span of all lists of line numbers
abbrev pub root_span : List (List Entry) → Span
root_span table = record { path = []; lo = 0; hi = length (lines_at table 0) }

pub in_root : (problem : Problem) (table : List (List Entry)) (places : List ℕ) → 0 < length table
    → IsTableOf problem table → IsLegalRoster problem places → IsInSpan table (root_span table) places
in_root problem table places some is legal =
    let found = AreNumbersOf-exist problem (map sets_of table) places is.sets legal in
    let numbers = found.0 in
    let long : length numbers ≡ length table = found.1.box.covers ∙ length-map table sets_of in
    let i : ℕ = get_or numbers 0 0 in
    let number = slice_get-get_or numbers 0 0 (omega (arith, long, some)) in
    let line = found.1.sets 0 i (sets_of (lines_at table 0)) number (sets_at table 0 some) in
    let below : i < length (lines_at table 0) = omega (arith, slice_get_within (sets_of (lines_at table 0)) i (set_of 0 places) line, length-map (lines_at table 0) (λ entry. entry.set)) in (
      numbers,
      found.1,
      record {
        front = λ k i none. absurd (none-some i none);
        next = (i, number, omega arith, below);
      },
    )

-- what settles a span that holds all legal rosters is the best
pub settled_is_best : (problem : Problem) (table : List (List Entry)) (span : Span) (best : Key)
    → IsSettled problem table (record { span = span; best = best })
    → ((others : List ℕ) → IsLegalRoster problem others → IsInSpan table span others) → IsBestKey problem best
settled_is_best problem table span best settled holds = record {
  best = record {
    is_legal = settled.held.legal;
    inside = tt;
    least = λ others legal _. subst (λ key. key_le key (key_of problem others) ≡ true) (held-key problem best settled.held) (settled.least others legal (holds others legal));
  };
  cost = settled.held.cost;
}

-- ---- nobody is there

all_zero : (xs : List ℕ) → All (λ x. x ≤ 0) xs → xs ≡ replicate (length xs) 0
all_zero [] none = refl
all_zero (x ∷ xs) zeros =
    ap₂ (λ y ys. y ∷ ys) (omega (arith, zeros 0 0 (omega arith)))
    (all_zero xs (λ p d inside. zeros (suc p) d (omega (arith, inside))))

nobody_best : (problem : Problem) → length problem.persons ≡ 0
    → IsBest problem (replicate (length problem.pairings) (length problem.persons))
nobody_best problem nobody = record {
  is_legal = all_open_legal problem;
  inside = tt;
  least = λ others legal _.
      let same : others ≡ replicate (length problem.pairings) (length problem.persons) =
      all_zero others (subst (λ n. All (λ x. x ≤ n) others) nobody legal.numbers)
      ∙ ap₂ (λ m n. replicate m n) legal.covers (sym nobody) in
      subst (λ xs. key_le (key_of problem (replicate (length problem.pairings) (length problem.persons))) (key_of problem xs) ≡ true) (sym same) (key_le-refl (key_of problem (replicate (length problem.pairings) (length problem.persons))));
}

pub nobody_is_best : (problem : Problem) (known : Key) → length problem.persons ≡ 0
    → known ≡ key_of problem (replicate (length problem.pairings) (length problem.persons)) → IsBestKey problem known
nobody_is_best problem known nobody is =
    subst (λ (key : Key). IsBestKey problem key) (sym is) (record { best = nobody_best problem nobody; cost = refl })
