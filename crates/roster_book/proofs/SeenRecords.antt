-- Records that are seen one by one, and then those that are left.
use Rattle.std.proofs.Common.{◌≡◌, ◌∙◌, ap, sym, refl, ℕ, List, [], ◌∷◌, ◌++◌, Option, Some, None, Result, Ok, Err, append_assoc}
use Rattle.std.specs.Prelude.{IfSome, IsErrAnd, MatchResult}
use Rattle.std.proofs.lemmas.List.{append-nil}
use Rattle.roster_model.specs.Record.{Record, Command, next_row}
use Rattle.roster_model.specs.Faults.{IsFaultlessSoFar, code_of}
use Rattle.roster_book.specs.Reading.{AreSeen, IsBookOf, OfKnown, TellsFirst}
use Rattle.roster_book.specs.View.{Refuses, ToldAt}
use Rattle.roster_book.specs.declared.book.Book.{Book}
use Rattle.roster_book.specs.declared.fault.BookFault.{BookFault}
use Rattle.roster_book.specs.declared.fault.BookFault.TheVariants.{Memory}
use Rattle.roster_book.specs.declared.refusal.Refusal.{Refusal}
use Rattle.roster_book.specs.declared.refusal.Refusal.TheVariants as refusals
use Rattle.roster_book.proofs.FirstFaultLemmas.{first_fault-at}

pub seen-none : (all : Option (List Record)) → AreSeen all [] all
seen-none None = tt
seen-none (Some records) = refl

-- the first of those that were left is seen
pub seen-more : (all left rest : Option (List Record)) (seen : List Record) (fields : Record)
    → AreSeen all seen left → AreSeen left (fields ∷ []) rest → AreSeen all (seen ++ fields ∷ []) rest
seen-more None left rest seen fields h next = tt
seen-more (Some records) None rest seen fields h next = absurd h
seen-more (Some records) (Some others) None seen fields h next = absurd next
seen-more (Some records) (Some others) (Some last) seen fields h next =
    h ∙ ap (λ (t : List Record). seen ++ t) next ∙ sym (append_assoc seen (fields ∷ []) last)

-- if none is left, those seen are all
pub seen-all : (all left : Option (List Record)) (seen : List Record) (P : List Record → Type 0)
    → AreSeen all seen left → IfSome left (λ records. records ≡ []) → P seen → OfKnown P all
seen-all None left seen P h none holds = (seen, holds)
seen-all (Some records) None seen P h none holds = absurd h
seen-all (Some records) (Some others) seen P h none holds =
    let same : records ≡ seen = h ∙ ap (λ (t : List Record). seen ++ t) none ∙ append-nil seen in
    rw same holds

-- what holds whatever follows the records seen and the next one holds of all
pub seen-next : (all left rest : Option (List Record)) (seen : List Record) (fields : Record)
    (P : List Record → Type 0)
    → AreSeen all seen left → AreSeen left (fields ∷ []) rest
    → ((last : List Record) → P (seen ++ fields ∷ last)) → OfKnown P all
seen-next None left rest seen fields P h next holds = (seen ++ fields ∷ [], holds [])
seen-next (Some records) None rest seen fields P h next holds = absurd h
seen-next (Some records) (Some others) None seen fields P h next holds = absurd next
seen-next (Some records) (Some others) (Some last) seen fields P h next holds =
    let same : records ≡ seen ++ fields ∷ last = h ∙ ap (λ (t : List Record). seen ++ t) next in
    rw same (holds last)

-- a refusal of a record after others without a fault tells the first fault, whatever follows
pub refused-first : (command : Command) (row : ℕ) (seen : List Record) (fields : Record) (last : List Record)
    (e : Refusal) (fault : BookFault)
    → row ≡ next_row seen → IsFaultlessSoFar command seen → Refuses e (code_of command seen fields)
    → ToldAt row e fault
    → TellsFirst command (seen ++ fields ∷ last) fault
refused-first command row seen fields last (refusals.Fault code) fault at faultless refuses told =
    rw (told, at) (first_fault-at command seen fields last _ faultless refuses)
refused-first command row seen fields last refusals.Memory fault at faultless refuses told = rw told tt

-- want of memory tells no fault of the records
pub memory-told : (command : Command) (all : Option (List Record)) (r : Result Book BookFault)
    → IsErrAnd r (λ fault. fault ≡ Memory)
    → MatchResult r (λ book. OfKnown (λ records. IsBookOf command records book) all) (λ fault. OfKnown (λ records. TellsFirst command records fault) all)
memory-told command all (Ok book) h = absurd h
memory-told command None (Err fault) h = rw h ([], tt)
memory-told command (Some records) (Err fault) h = rw h tt
