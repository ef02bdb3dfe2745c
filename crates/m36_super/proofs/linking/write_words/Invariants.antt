use Rattle.std.proofs.Common.{◌≡◌, drop}
use Rattle.m36_super.proofs.LinkTurns.{IsWriting}
use Rattle.m36_super.proofs.linking.write_words.Given as goal

abbrev pub invariant-loop-w : goal.invariant-loop-w
invariant-loop-w l = record {
  put : IsWriting l.fn.machine.state.store l.fn.pager l.machine.state.store l.pager l.ring l.at (drop l.w-index l.words) l.word l.words;
  regs : l.machine.state.regs ≡ l.fn.machine.state.regs;
}
