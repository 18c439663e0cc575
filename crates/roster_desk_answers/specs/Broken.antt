-- Pairings that break off before a repair, as the command line says.
use Rattle.std.specs.Prelude.{◌≡◌, ◌==◌, ℕ, List, [], ◌∷◌, None, Option, Some, if◌then◌else◌, length, nat_lt}
use Rattle.std.specs.Borrow.{Bor}
use Rattle.std.specs.List.{after_first, before_first, position_or_len}
use Rattle.roster_model.specs.Calendar.{instant_of}
use Rattle.roster_model.specs.Problem.{Problem}
use Rattle.roster_model.specs.Record.{place_named}
use Rattle.roster_desk_repair.specs.Made.{IsBroken}
use Rattle.roster_desk_repair.specs.declared.breaking.BrokenBook.{BrokenBook}
use Rattle.roster_desk_repair_judged.specs.declared.broken.Break.{Break}
use Rattle.roster_desk_repair_judged.specs.declared.broken.Rest.{Rest}
use Rattle.roster_desk_repair_judged.specs.declared.broken.Rest.TheVariants as rests

-- what stands before the first such byte of the text, and behind it, if there is one
abbrev pub parts_at : ℕ → List ℕ → Option (List ℕ × List ℕ)
parts_at byte text =
    if nat_lt (position_or_len (λ b. b == byte) text) (length text)
    then Some (before_first (λ b. b == byte) text, after_first (λ b. b == byte) text) else None

-- the texts are of two instants
pub record AreInstants (texts : List ℕ × List ℕ) (report release : ℕ) : Type 0 where
  pub begins : instant_of texts.0 ≡ Some report
  pub ends : instant_of texts.1 ≡ Some release

-- the words before and behind a slash are of these instants
abbrev pub IsPositioned : Option (List ℕ × List ℕ) → ℕ → ℕ → Type 0
IsPositioned None report release = ⊥
IsPositioned (Some texts) report release = AreInstants texts report release

-- a person has this name, and there is no slash
pub record IsPerson (book : Problem) (name : List ℕ) (person : ℕ) : Type 0 where
  pub whole : parts_at 47 name ≡ None
  pub named : place_named (λ person. person.id) name book.persons ≡ Some person

-- so the words say what becomes of the rest
abbrev pub IsRest : Problem → List ℕ → Rest → Type 0
IsRest book words (rests.Positioned report release) = IsPositioned (parts_at 47 words) report release
IsRest book words (rests.Stays person) = IsPerson book words person

-- the words name the pairing that breaks off at the instant, and say behind a colon what becomes of the rest
pub record IsBreak (book : Problem) (at : ℕ) (words : List ℕ) (off : Break) : Type 0 where
  pub parts : List ℕ × List ℕ
  pub parted : parts_at 58 words ≡ Some parts
  pub pairing : place_named (λ pairing. pairing.id) parts.0 book.pairings ≡ Some off.pairing
  pub instant : off.at ≡ at
  pub rest : IsRest book parts.1 off.rest

-- the next book is the one in which it does so
pub record BreaksBy (book : Problem) (at : ℕ) (words : List ℕ) (next : Problem) : Type 0 where
  pub off : Break
  pub is : IsBreak book at words off
  pub made : BrokenBook
  pub broken : IsBroken book off made
  pub same : next ≡ made.problem

-- the last book is the one in which all do so, one after another
abbrev pub BreakBy : ℕ → Problem → List (Bor (List ℕ)) → Problem → Type 0
BreakBy at book [] last = last ≡ book
BreakBy at book (words ∷ more) last = (next : Problem) × BreaksBy book at words.now next × BreakBy at next more last
