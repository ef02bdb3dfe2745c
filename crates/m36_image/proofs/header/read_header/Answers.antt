-- Each exit but the last reports the first fault of the header: a line that is missing, or has a code.
use Rattle.std.proofs.Common.{sym, ap, Some, ◌∙◌}
use Rattle.m36_image.proofs.Headers.{missing_first, first_code, missing_second, second_form, missing_third, third_form, header_read}
use Rattle.m36_image.proofs.header.read_header.Goals as goal

pub returns-in_default-clause-says : goal.returns-in_default-clause-says
returns-in_default-clause-says c =
    missing_first _ c.args.text.now c.in_default.ensures.line ∙ ap (λ r. Some (r.line, r.code)) (sym c.form_refusal.ensures)

pub returns-in-Err-clause-says : goal.returns-in-Err-clause-says
returns-in-Err-clause-says c =
    first_code _ _ c.in-Some.line.now c.in-Err.code c.in-Some.ensures.line (sym c.in-Err.ensures.frames)

pub returns-in_default-first_line-clause-says : goal.returns-in_default-first_line-clause-says
returns-in_default-first_line-clause-says c =
    missing_second _ _ c.in-Some.line.now c.in-Some.rest.now c.in-Ok.frames c.in-Some.ensures.line (sym c.in-Ok.ensures.frames) c.in_default-first_line.ensures.line ∙ ap (λ r. Some (r.line, r.code)) (sym c.form_refusal-in_default-first_line.ensures)

pub returns-in_default-dbr_line-clause-says : goal.returns-in_default-dbr_line-clause-says
returns-in_default-dbr_line-clause-says c =
    second_form _ _ _ c.in-Some.line.now c.in-Some-first_line.line.now c.in-Ok.frames c.in-Some.ensures.line (sym c.in-Ok.ensures.frames) c.in-Some-first_line.ensures.line (sym c.in_default-dbr_line.ensures) ∙ ap (λ r. Some (r.line, r.code)) (sym c.form_refusal-in_default-dbr_line.ensures)

pub returns-in_default-first_line-2-clause-says : goal.returns-in_default-first_line-2-clause-says
returns-in_default-first_line-2-clause-says c =
    missing_third _ _ _ c.in-Some.line.now c.in-Some-first_line.line.now c.in-Some-first_line.rest.now c.in-Ok.frames c.in-Some-dbr_line.dbr c.in-Some.ensures.line (sym c.in-Ok.ensures.frames) c.in-Some-first_line.ensures.line (sym c.in-Some-dbr_line.ensures) c.in_default-first_line-2.ensures.line ∙ ap (λ r. Some (r.line, r.code)) (sym c.form_refusal-in_default-first_line-2.ensures)

pub returns-in_default-start_line-clause-says : goal.returns-in_default-start_line-clause-says
returns-in_default-start_line-clause-says c =
    third_form _ _ _ _ c.in-Some.line.now c.in-Some-first_line.line.now c.in-Some-first_line-2.line.now c.in-Ok.frames c.in-Some-dbr_line.dbr c.in-Some.ensures.line (sym c.in-Ok.ensures.frames) c.in-Some-first_line.ensures.line (sym c.in-Some-dbr_line.ensures) c.in-Some-first_line-2.ensures.line (sym c.in_default-start_line.ensures) ∙ ap (λ r. Some (r.line, r.code)) (sym c.form_refusal-in_default-start_line.ensures)

pub returns-clause-says : goal.returns-clause-says
returns-clause-says c =
    header_read _ _ _ c.in-Some.line.now c.in-Some-first_line.line.now c.in-Some-first_line-2.line.now c.in-Some-first_line-2.rest.now c.in-Ok.frames c.in-Some-dbr_line.dbr c.in-Some-start_line.start c.in-Some.ensures.line (sym c.in-Ok.ensures.frames) c.in-Some-first_line.ensures.line (sym c.in-Some-dbr_line.ensures) c.in-Some-first_line-2.ensures.line (sym c.in-Some-start_line.ensures)
