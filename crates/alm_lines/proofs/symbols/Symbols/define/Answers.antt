use Rattle.alm_lines.proofs.SymbolLaws.{stay_small}
use Rattle.alm_lines.proofs.symbols.Symbols.define.Goals as goal

pub invariant_of-self-2 : goal.invariant_of-self-2
invariant_of-self-2 c = stay_small _ c.insert.new.self.entries c.args.name c.args.sum c.self.invariant c.requires c.in_ok-insert.ensures.entries
