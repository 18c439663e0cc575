-- The records of a report, by its lines.
use Rattle.std.proofs.Common.{◌≡◌, ◌∙◌, ℕ, List, [], None, ap, map, subst, sym}
use Rattle.std.specs.List.{flat_map}
use Rattle.std.specs.Option.{option_or}
use Rattle.std.proofs.lemmas.Simd.{map-map}
use Rattle.roster_desk_reports.specs.Faults.{fault_of_text, records_fault}
use Rattle.roster_desk_reports.specs.Text.{Given, assigns_of, given_by_line, given_by_text, numbered_by_line, numbered_by_text}
use Rattle.roster_desk_reports.specs.declared.report.CrewLine.{CrewLine}
use Rattle.roster_desk_answers.specs.Reports.{AreAssigns}

given_text : (report : List ℕ) (crew : List CrewLine) → map numbered_by_line crew ≡ numbered_by_text report
    → map given_by_line crew ≡ given_by_text report
given_text report crew lines =
    let second : ℕ × Given → Given = λ numbered. numbered.1 in
    sym (map-map second numbered_by_line crew) ∙ ap (map second) lines

-- nothing is wrong with the lines, and these are their records
pub are_assigns : (report text : List ℕ) (crew : List CrewLine) → map numbered_by_line crew ≡ numbered_by_text report
    → fault_of_text report ≡ None → records_fault [] crew ≡ None
    → text ≡ flat_map assigns_of (map given_by_line crew) → AreAssigns report text
are_assigns report text crew lines sound once all = record {
  crew = crew;
  lines = λ _. lines;
  sound = subst (λ told. option_or told (records_fault [] crew) ≡ None) (sym sound) once;
  records = all ∙ ap (flat_map assigns_of) (given_text report crew lines);
}
