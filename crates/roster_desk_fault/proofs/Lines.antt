-- Lines that are put together, and what stands behind them.
use Rattle.std.proofs.Common.{◌≡◌, ◌==◌, ◌∙◌, ◌+◌, ◌<◌, ◌++◌, ◌∷◌, [], ℕ, List, ap, ap₂, arith, codes, false, length, refl, subst, sym}
use Rattle.std.specs.Fmt.{decimal}
use Rattle.std.proofs.lemmas.Bool.{false≢true}
use Rattle.std.proofs.lemmas.List.{append-nil, append_assoc}
use Rattle.roster_model.specs.Texts.{fault_text}
use Rattle.roster_desk_words.specs.Parts.{AreParts}
use Rattle.roster_desk_fault.specs.Firsts.{BeginsAt}
use Rattle.roster_desk_fault.specs.Told.{BeginsWarning, IsOfWord, IsPart, SaysFault}
use Rattle.roster_desk_fault.specs.declared.judging.First.{First}
use Rattle.roster_desk_fault.specs.declared.judging.Told.{Told}

pub glue : {a b c d : List ℕ} → a ≡ b → c ≡ d → a ++ c ≡ b ++ d
glue first second = ap₂ (λ x y. x ++ y) first second

-- ---- how many records there are

pub count_text : (old out all w w' f f' n n' m m' : List ℕ) → old ≡ []
    → out ≡ old ++ (codes "  " ++ (w ++ (f ++ (n ++ [])))) → all ≡ out ++ m → w ≡ w' → f ≡ f' → n ≡ n' → m ≡ m'
    → all ≡ codes "  " ++ w' ++ f' ++ n' ++ m'
count_text old out all w w' f f' n n' m m' none first second a b c d =
    let line : out ≡ codes "  " ++ (w' ++ (f' ++ (n' ++ []))) =
    first ∙ glue none (ap (λ t. codes "  " ++ t) (glue a (glue b (glue c refl)))) in
    second ∙ glue line d ∙ simp (append_assoc, append-nil)

-- ---- a book without a fault

pub good_text : (old out a n n' c c' : List ℕ) → old ≡ [] → out ≡ old ++ (a ++ (n ++ (c ++ []))) → n ≡ n' → c ≡ c'
    → out ≡ a ++ n' ++ c'
good_text old out a n n' c c' none all x y =
    let same : out ≡ a ++ (n' ++ (c' ++ [])) = all ∙ glue none (ap (λ t. a ++ t) (glue x (glue y refl))) in
    same ∙ simp (append_assoc, append-nil)

-- ---- who has too many legal sets

pub crowded_text : (old out a s s' b n n' d m m' e f : List ℕ) → old ≡ []
    → out ≡ old ++ (a ++ (s ++ (b ++ (n ++ (d ++ (m ++ (e ++ (f ++ [])))))))) → s ≡ s' → n ≡ n' → m ≡ m'
    → out ≡ a ++ s' ++ b ++ n' ++ d ++ m' ++ e ++ f
crowded_text old out a s s' b n n' d m m' e f none all x y z =
    let same : out ≡ a ++ (s' ++ (b ++ (n' ++ (d ++ (m' ++ (e ++ (f ++ []))))))) =
    all ∙ glue none (ap (λ t. a ++ t) (glue x (ap (λ t. b ++ t) (glue y (ap (λ t. d ++ t) (glue z refl)))))) in
    same ∙ simp (append_assoc, append-nil)

-- ---- faults

pub says_fault : (row code : ℕ) (old out r c said : List ℕ) → old ≡ []
    → out ≡ old ++ (codes "FAULT " ++ (r ++ (codes " " ++ (c ++ (codes "\n" ++ (said ++ [])))))) → r ≡ decimal row → c ≡ decimal code
    → SaysFault row code out
unfolding fault_text
says_fault row code old out r c said none all x y =
    let same : out ≡ codes "FAULT " ++ (decimal row ++ (codes " " ++ (decimal code ++ (codes "\n" ++ (said ++ []))))) =
    all ∙ glue none (ap (λ t. codes "FAULT " ++ t) (glue x (ap (λ t. codes " " ++ t) (glue y refl)))) in
    record { said = said; all = same ∙ simp (append_assoc, append-nil) }

-- the first of the faults that are told is said first
pub parts_say_first : (first : First) (all : List Told) (text end new : List ℕ) → first.row < 18446744073709551616
    → (length all == 0) ≡ false → BeginsAt first all → AreParts IsPart all text → new ≡ text ++ end
    → SaysFault first.row first.code new
parts_say_first first [] text end new fits some begins are behind = absurd (false≢true (sym some))
parts_say_first first (t ∷ all) text end new fits some begins are behind =
    let says = are.2 (omega (arith, fits, begins.0)) in
    let whole : text ≡ (fault_text (record { row = t.at + 1; code = t.code }) ++ says.said) ++ are.1 =
    are.4 ∙ ap (λ p. p ++ are.1) says.all in
    let it : SaysFault (t.at + 1) t.code new =
    record { said = says.said ++ are.1 ++ end; all = behind ∙ ap (λ p. p ++ end) whole ∙ simp append_assoc } in
    subst (λ row. SaysFault row first.code new) begins.0 (subst (λ code. SaysFault (t.at + 1) code new) begins.1 it)

-- ---- warnings

-- more stands behind a warning
warning_goes_on : (word old new more : List ℕ) → BeginsWarning word old → new ≡ old ++ more → BeginsWarning word new
warning_goes_on word old new more is behind =
    record { row = is.row; behind = is.behind ++ more; all = behind ∙ ap (λ t. t ++ more) is.all ∙ simp append_assoc }

-- and behind what is told of a word
pub word_goes_on : (word old new more : List ℕ) → (length old == 0) ≡ false → IsOfWord word old → new ≡ old ++ more
    → IsOfWord word new
word_goes_on word [] new more some is behind = absurd (false≢true (sym some))
word_goes_on word (b ∷ old) new more some is behind =
    subst (IsOfWord word) (sym behind) (warning_goes_on word (b ∷ old) (b ∷ old ++ more) more is refl)

-- a warning is told of it
pub word_is_told : (word old new n w said : List ℕ) (row : ℕ) → IsOfWord word old
    → new ≡ old ++ (codes "WARN " ++ (n ++ (codes " " ++ (w ++ (codes "\n" ++ (said ++ [])))))) → n ≡ decimal row → w ≡ word
    → IsOfWord word new
word_is_told word [] new n w said row is behind x y =
    subst (IsOfWord word) (sym behind) (record {
      row = row;
      behind = said;
      all =
          ap (λ t. codes "WARN " ++ t) (glue x (ap (λ t. codes " " ++ t) (glue y refl)))
          ∙ simp (append_assoc, append-nil);
    })
word_is_told word (b ∷ old) new n w said row is behind x y =
    subst (IsOfWord word) (sym behind) (warning_goes_on word (b ∷ old) _ _ is refl)
