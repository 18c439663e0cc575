use Rattle.std.proofs.Common.{◌≡◌, ℕ, Bor, List, [], None, Some, ◌∙◌, ap, map, option_map, sym, unwrap_or}
use Rattle.std.proofs.lemmas.Result.{IfOk-weaker}
use Rattle.clap.specs.Words.{all_of, found_of, rows_of}
use Rattle.clap.proofs.WalkLemmas.{raw_values-rows}
use Rattle.roster_desk_arguments.proofs.asked.values.Goals as goal

abbrev texts_of : List (Bor (List ℕ)) → List (List ℕ)
texts_of = map (λ text. text.now)

pub returns-in-Some : goal.returns-in-Some
returns-in-Some c =
    let all = all_of c.args.name.now (rows_of (found_of c.args.found.now)) in
    let found : option_map (λ s. texts_of s.now) c.get_strs.result ≡ all = c.get_strs.ensures ∙ raw_values-rows (found_of c.args.found.now) c.args.name.now in
    let same : Some (texts_of c.in-Some.texts.now) ≡ all = ap (option_map (λ s. texts_of s.now)) (sym c.in-Some.is) ∙ found in
    IfOk-weaker c.from_slice.result _ _ (λ v items. ap texts_of items ∙ ap (λ o. unwrap_or o []) same) c.from_slice.ensures.items

pub returns-in-None : goal.returns-in-None
returns-in-None c =
    let all = all_of c.args.name.now (rows_of (found_of c.args.found.now)) in
    let found : option_map (λ s. texts_of s.now) c.get_strs.result ≡ all = c.get_strs.ensures ∙ raw_values-rows (found_of c.args.found.now) c.args.name.now in
    let none : None ≡ all = ap (option_map (λ s. texts_of s.now)) (sym c.in-None.is) ∙ found in
    ap texts_of c.new.ensures.items ∙ ap (λ o. unwrap_or o []) none
