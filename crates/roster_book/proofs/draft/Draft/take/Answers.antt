use Rattle.std.proofs.Common.{◌∙◌, sym, refl}
use Rattle.csv.specs.Records.{fields_of}
use Rattle.roster_model.specs.Record.{BaseRecord, CrewRecord, PairingRecord, DutyRecord, LeaveRecord, PeriodRecord}
use Rattle.roster_model.specs.records.Base.{base_of}
use Rattle.roster_model.specs.records.Crew.{person_of}
use Rattle.roster_model.specs.records.Pairing.{pairing_of}
use Rattle.roster_model.specs.records.Leave.{leave_of}
use Rattle.roster_book.specs.Draft.{contents_of}
use Rattle.roster_values.specs.View.{command_of}
use Rattle.roster_book.proofs.Drafts.{code_of-later, code_of-unknown, IsDraftOf-append, Takes-pushed, Takes-refused}
use Rattle.roster_book.proofs.draft.Draft.take.Goals as goal

pub returns-in-None : goal.returns-in-None
returns-in-None c = λ before d. code_of-unknown (command_of c.args.command) before (fields_of c.args.fields.now) d.begun (sym c.in-None.ensures)

pub returns-in-Some-Period : goal.returns-in-Some-Period
returns-in-Some-Period c = λ before d.
    code_of-later (command_of c.args.command) PeriodRecord before (fields_of c.args.fields.now) d.begun
    (sym (rw c.in-Some-Period.field-0-is at c.in-Some-Period.ensures))
    ∙ c.fault_of_later.ensures (command_of c.args.command) before d.begun d.faultless

pub returns-in_err-base-in-Some-Base : goal.returns-in_err-base-in-Some-Base
returns-in_err-base-in-Some-Base c = λ before d.
    Takes-refused (fields_of c.args.fields.now) _ _ _ d
    (rw c.in-Some-Base.field-0-is at c.in-Some-Base.ensures) c.from_residual.ensures.1
    (c.in_err-base-in-Some-Base.ensures (command_of c.args.command) c.args.row before d)

pub returns-in_ok-base-in-Some-Base : goal.returns-in_ok-base-in-Some-Base
returns-in_ok-base-in-Some-Base c = λ before d.
    let fields = fields_of c.args.fields.now in
    Takes-pushed (command_of c.args.command) c.args.row BaseRecord before fields
    (contents_of c.args.self.now) _ (base_of before fields) _ _ _ d
    (rw c.in-Some-Base.field-0-is at c.in-Some-Base.ensures)
    (c.push.ensures _ (base_of before fields) (c.in_ok-base-in-Some-Base.ensures (command_of c.args.command) c.args.row before d)) (λ same. rw same refl)

pub returns-in-Some-Crew : goal.returns-in-Some-Crew
returns-in-Some-Crew c = λ before d.
    let fields = fields_of c.args.fields.now in
    Takes-pushed (command_of c.args.command) c.args.row CrewRecord before fields
    (contents_of c.args.self.now) _ (person_of before fields) _ _ _ d
    (rw c.in-Some-Crew.field-0-is at c.in-Some-Crew.ensures)
    (c.push-in-Some-Crew.ensures _ (person_of before fields) (c.judge_person-person.ensures (command_of c.args.command) before d)) (λ same. rw same refl)

pub returns-in-Some-Pairing : goal.returns-in-Some-Pairing
returns-in-Some-Pairing c = λ before d.
    let fields = fields_of c.args.fields.now in
    Takes-pushed (command_of c.args.command) c.args.row PairingRecord before fields
    (contents_of c.args.self.now) _ (pairing_of before fields) _ _ _ d
    (rw c.in-Some-Pairing.field-0-is at c.in-Some-Pairing.ensures)
    (c.push-in-Some-Pairing.ensures _ (pairing_of before fields) (c.judge_pairing-pairing.ensures (command_of c.args.command) before d)) (λ same. rw same refl)

pub returns-in_err-duty-in-Some-Duty : goal.returns-in_err-duty-in-Some-Duty
returns-in_err-duty-in-Some-Duty c = λ before d.
    Takes-refused (fields_of c.args.fields.now) _ _ _ d (rw c.in-Some-Duty.field-0-is at c.in-Some-Duty.ensures) c.from_residual-in_err-duty-in-Some-Duty.ensures.1 (c.in_err-duty-in-Some-Duty.ensures.judged (command_of c.args.command) before d)

pub returns-in_err-push-in-Some-Duty : goal.returns-in_err-push-in-Some-Duty
returns-in_err-push-in-Some-Duty c = λ before d.
    Takes-refused (fields_of c.args.fields.now) _ _ _ d (rw c.in-Some-Duty.field-0-is at c.in-Some-Duty.ensures) c.from_residual-in_err-push-in-Some-Duty.ensures.1 ((c.in_ok-duty-in-Some-Duty.ensures.judged (command_of c.args.command) before d).0)

pub returns-in_ok-push-in-Some-Duty : goal.returns-in_ok-push-in-Some-Duty
returns-in_ok-push-in-Some-Duty c = λ before d.
    let fields = fields_of c.args.fields.now in
    let judged = c.in_ok-duty-in-Some-Duty.ensures.judged (command_of c.args.command) before d in
    rw (c.in_ok-push-in-Some-Duty.ensures, judged.1)
    (IsDraftOf-append (command_of c.args.command) c.args.row DutyRecord before fields (contents_of c.args.self.now) d (sym (rw c.in-Some-Duty.field-0-is at c.in-Some-Duty.ensures)) judged.0)

pub returns-in-Some-Leave : goal.returns-in-Some-Leave
returns-in-Some-Leave c = λ before d.
    let fields = fields_of c.args.fields.now in
    Takes-pushed (command_of c.args.command) c.args.row LeaveRecord before fields
    (contents_of c.args.self.now) _ (leave_of before fields) _ _ _ d
    (rw c.in-Some-Leave.field-0-is at c.in-Some-Leave.ensures)
    (c.push-in-Some-Leave.ensures _ (leave_of before fields) (c.judge_leave-leave.ensures (command_of c.args.command) c.args.row before d)) (λ same. rw same refl)
