use Rattle.std.proofs.Common.{rules, ◌≡◌, sym, subst, drop, Ok}
use Rattle.run_file.specs.declared.headers.ValueKind.TheVariants.{Setpoint, Sheet}
use Rattle.run_file.specs.Headers.{header_of}
use Rattle.run_file.specs.Listings.{lent}
use Rattle.run_file.proofs.Fitting.{setpoint_fits, sheet_fits, becomes_of, used_by}
use Rattle.run_file.proofs.listings.list_either_kind.Goals as goal

pub list_under_named_model-requires : goal.list_under_named_model-requires
list_under_named_model-requires c = (search rules, (search rules, setpoint_fits))

pub list_under_named_model-requires-in-Sheet : goal.list_under_named_model-requires-in-Sheet
list_under_named_model-requires-in-Sheet c = (search rules, (search rules, sheet_fits))

pub returns-in-Setpoint-clause-becomes : goal.returns-in-Setpoint-clause-becomes
returns-in-Setpoint-clause-becomes c =
    let read : header_of c.args.file.now ≡ Ok c.in_ok-header.header = search rules in
    becomes_of (lent c.args.setpoints.now c.args.sheets.now) c.args.file.now c.in_ok-header.header Setpoint c.list_under_named_model.result c.args.out.now c.list_under_named_model.new.out read c.in-Setpoint.is c.list_under_named_model.ensures.becomes

pub returns-in-Setpoint-clause-setpoints : goal.returns-in-Setpoint-clause-setpoints
returns-in-Setpoint-clause-setpoints c =
    let read : header_of c.args.file.now ≡ Ok c.in_ok-header.header = search rules in
    subst (λ used. drop used c.list_under_named_model.new.cells ≡ drop used c.args.setpoints.now) (sym (used_by (lent c.args.setpoints.now c.args.sheets.now) c.args.file.now c.in_ok-header.header Setpoint read c.in-Setpoint.is)) c.list_under_named_model.ensures.used

pub returns-in-Sheet-clause-becomes : goal.returns-in-Sheet-clause-becomes
returns-in-Sheet-clause-becomes c =
    let read : header_of c.args.file.now ≡ Ok c.in_ok-header.header = search rules in
    becomes_of (lent c.args.setpoints.now c.args.sheets.now) c.args.file.now c.in_ok-header.header Sheet c.list_under_named_model-in-Sheet.result c.args.out.now c.list_under_named_model-in-Sheet.new.out read c.in-Sheet.is c.list_under_named_model-in-Sheet.ensures.becomes

pub returns-in-Sheet-clause-sheets : goal.returns-in-Sheet-clause-sheets
returns-in-Sheet-clause-sheets c =
    let read : header_of c.args.file.now ≡ Ok c.in_ok-header.header = search rules in
    subst (λ used. drop used c.list_under_named_model-in-Sheet.new.cells ≡ drop used c.args.sheets.now) (sym (used_by (lent c.args.setpoints.now c.args.sheets.now) c.args.file.now c.in_ok-header.header Sheet read c.in-Sheet.is)) c.list_under_named_model-in-Sheet.ensures.used
