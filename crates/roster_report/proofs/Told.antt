-- What a writer holds that was told a text and then more.
use Rattle.std.proofs.Common.{Bool, true, false, ℕ, ◌+◌, List, ◌++◌, length, take, min, Option, refl, sym, ◌∙◌, ◌≡◌, subst, arith}
use Rattle.std.proofs.Math.Seq.{take-append-add}
use Rattle.std.proofs.lemmas.List.{take-append-le, take_min}
use Rattle.std.specs.Io.KnownBytes.{Appends}
use Rattle.roster_report.proofs.Appends.{Appends-then}
use Rattle.roster_report.specs.Writing.{AppendsPrefix, TellsText}
use Rattle.roster_watched.specs.Watch.{inner_of, has_failed}
use Rattle.roster_watched.specs.declared.watched.Watched.{Watched}

prefix_longer : (old new : Option (List ℕ)) (text more : List ℕ) → AppendsPrefix old new text
    → AppendsPrefix old new (text ++ more)
prefix_longer old new text more part =
    let k = min part.0 (length text) in
    let same : take k (text ++ more) ≡ take part.0 text =
    take-append-le k text more (omega arith) ∙ take_min part.0 text in
    (k, subst (Appends old new) (sym same) part.1)

prefix_then : (first second third : Option (List ℕ)) (text more : List ℕ) → Appends first second text
    → AppendsPrefix second third more → AppendsPrefix first third (text ++ more)
prefix_then first second third text more all part =
    (length text + part.0, subst (Appends first third) (sym (take-append-add text more part.0)) (Appends-then first second third text (take part.0 more) all part.1))

-- the part of both texts, where the writer held out through the first one, or didn't
part_of_both : {D : Type 0} (contents : D → Option (List ℕ)) (text more : List ℕ) (old mid new : Watched D) (failed : Bool) → has_failed mid ≡ failed → TellsText contents text old mid → TellsText contents more mid new → has_failed old ≡ false → AppendsPrefix (contents (inner_of old)) (contents (inner_of new)) (text ++ more)
part_of_both contents text more old mid new false is one two sound =
    prefix_then (contents (inner_of old)) (contents (inner_of mid)) (contents (inner_of new)) text more (one.whole is).1 (two.part is)
part_of_both contents text more old mid new true is one two sound =
    subst (λ last. AppendsPrefix (contents (inner_of old)) (contents (inner_of last)) (text ++ more))
    (sym (two.none is))
    (prefix_longer (contents (inner_of old)) (contents (inner_of mid)) text more (one.part sound))

pub tells_both : {D : Type 0} (contents : D → Option (List ℕ)) (text more : List ℕ) (old mid new : Watched D) → TellsText contents text old mid → TellsText contents more mid new → TellsText contents (text ++ more) old new
tells_both contents text more old mid new one two = record {
  whole = λ good.
      let second = two.whole good in
      let first = one.whole second.0 in
      (first.0, Appends-then (contents (inner_of old)) (contents (inner_of mid)) (contents (inner_of new)) text more first.1 second.1);
  part = part_of_both contents text more old mid new (has_failed mid) refl one two;
  none = λ failed.
      let same : mid ≡ old = one.none failed in
      two.none (subst (λ it. has_failed it ≡ true) (sym same) failed) ∙ same;
}
