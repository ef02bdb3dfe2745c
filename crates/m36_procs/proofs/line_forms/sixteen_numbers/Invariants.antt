use Rattle.std.proofs.Common.{◌≡◌, length}
use Rattle.m36_text.specs.Lines.{words_of}
use Rattle.m36_text.specs.Numbers.{short_decimal_in}
use Rattle.m36_image.proofs.SeveralLaws.{Reading}
use Rattle.m36_procs.proofs.line_forms.sixteen_numbers.Given as goal

abbrev pub invariant-loop : goal.invariant-loop
invariant-loop l = record {
  reading : Reading (short_decimal_in 1 0 9) l.order.items (words_of l.rest) (words_of l.line);
  count : length l.order.items ≡ l.counter;
}
