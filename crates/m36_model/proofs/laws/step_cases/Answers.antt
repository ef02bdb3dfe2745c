use Rattle.m36_model.proofs.laws.step_cases.Goals as goal
use Rattle.m36_model.proofs.CompletedLaw.{marks_of_completed_references}
use Rattle.m36_model.proofs.OperandWordsLaw.{reads_words_in_order, writes_words_in_order}
use Rattle.m36_model.proofs.StepLaw.{step_has_a_case}
use Rattle.m36_model.proofs.OneStepLaw.{case_is_the_step}

pub returns : goal.returns
returns c =
    record {
      cases = step_has_a_case;
      only = case_is_the_step;
      marks = marks_of_completed_references;
      reads = reads_words_in_order;
      writes = writes_words_in_order;
    }
