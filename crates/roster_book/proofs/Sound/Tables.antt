-- A base, a person or a pairing more keeps the contents sound.
use Rattle.std.proofs.Common.{ℕ, Bool, ◌&&◌, ◌<◌, ◌≤◌, List, [], ◌∷◌, ◌++◌, length, refl, arith}
use Rattle.std.proofs.lemmas.Bool.{and_parts}
use Rattle.std.proofs.lemmas.List.Elements.{All-push}
use Rattle.roster_model.specs.declared.limits.TheConstants.{MOST_BASES, MOST_PERSONS, MOST_PAIRINGS, MOST_MINUTES, MOST_PENALTY}
use Rattle.roster_model.specs.Form.{is_amount, number_of}
use Rattle.roster_model.specs.Record.{BaseRecord, CrewRecord, PairingRecord}
use Rattle.roster_model.specs.Code.{NotGiven, NoRoom, OutOfLimits}
use Rattle.roster_model.specs.Faults.{code_of_kind}
use Rattle.roster_model.specs.records.Base as base
use Rattle.roster_model.specs.records.Crew as crew
use Rattle.roster_model.specs.records.Pairing as pairing
use Rattle.roster_model.specs.records.Base.{base_of, bases_in}
use Rattle.roster_model.specs.records.Crew.{person_of}
use Rattle.roster_model.specs.records.Pairing.{pairing_of}
use Rattle.roster_book.proofs.Conditions.{amount-below, below, is_met, place-below}
use Rattle.roster_book.proofs.Soundness.{KeepsSound, assigned_of_more, has_room, holders_of_more, places_of_more, sound-more}

pub sound-base : KeepsSound BaseRecord
unfolding code_of_kind
sound-base count before fields contents k =
    let t = contents.tables in
    let s = k.sound.sound in
    let made = base_of before fields in
    let met = is_met (base.conditions before fields) k.met in
    let n = has_room MOST_BASES t.bases made (rw k.tables_are (below _ MOST_BASES (met NoRoom))) in
    let homes = places_of_more (λ person. person.base) t.persons t.bases made s.homes in
    let starts = places_of_more (λ q. q.base) t.pairings t.bases made s.starts in
    sound-more k.sound (assumption (n.few, homes, starts, s)) refl k.sound.assigned (omega arith)

pub sound-person : KeepsSound CrewRecord
unfolding code_of_kind person_of
sound-person count before fields contents k =
    let t = contents.tables in
    let s = k.sound.sound in
    let made = person_of before fields in
    let met = is_met (crew.conditions before fields) k.met in
    let n = has_room MOST_PERSONS t.persons made (rw k.tables_are (below _ MOST_PERSONS (met NoRoom))) in
    let home : made.base < length t.bases =
    rw k.tables_are (place-below _ _ (bases_in before) (met NotGiven)) in
    let homes = All-push (λ person. person.base < length t.bases) t.persons made s.homes home in
    let few_minutes : List ℕ → Bool = λ digits. is_amount MOST_MINUTES (number_of digits) in
    let carried =
    and_parts (few_minutes (crew.target_in fields) && few_minutes (crew.year_in fields))
    (few_minutes (crew.eleven_in fields)) (met OutOfLimits) in
    let limited =
    (and_parts (few_minutes (crew.target_in fields)) (few_minutes (crew.year_in fields)) carried.0).0 in
    let targets =
    All-push (λ person. person.target ≤ MOST_MINUTES) t.persons made s.targets
    (amount-below MOST_MINUTES (number_of (crew.target_in fields)) limited) in
    let holders =
    holders_of_more (length t.pairings) (length (t.persons ++ made ∷ [])) t.duties (omega arith)
    (omega arith) s.holders in
    let absences = places_of_more (λ leave. leave.person) t.leaves t.persons made s.absences in
    let priced = places_of_more (λ cost. cost.person) t.costs t.persons made s.cost_persons in
    sound-more k.sound (assumption (n.few, homes, targets, holders, absences, priced, s)) refl
    (assigned_of_more _ _ contents.assigns (omega arith) (omega arith) k.sound.assigned) (omega arith)

pub sound-pairing : KeepsSound PairingRecord
unfolding code_of_kind pairing_of
sound-pairing count before fields contents k =
    let t = contents.tables in
    let s = k.sound.sound in
    let made = pairing_of before fields in
    let met = is_met (pairing.conditions before fields) k.met in
    let n = has_room MOST_PAIRINGS t.pairings made (rw k.tables_are (below _ MOST_PAIRINGS (met NoRoom))) in
    let start : made.base < length t.bases =
    rw k.tables_are (place-below _ _ (bases_in before) (met NotGiven)) in
    let penalties =
    All-push (λ q. q.penalty ≤ MOST_PENALTY) t.pairings made s.penalties
    (amount-below MOST_PENALTY (number_of (pairing.penalty_in fields)) (met OutOfLimits)) in
    let starts = All-push (λ q. q.base < length t.bases) t.pairings made s.starts start in
    let holders =
    holders_of_more (length (t.pairings ++ made ∷ [])) (length t.persons) t.duties (omega arith)
    (omega arith) s.holders in
    let priced = places_of_more (λ cost. cost.pairing) t.costs t.pairings made s.cost_pairings in
    sound-more k.sound (assumption (n.few, penalties, starts, holders, priced, s)) refl
    (assigned_of_more _ _ contents.assigns (omega arith) (omega arith) k.sound.assigned) (omega arith)
