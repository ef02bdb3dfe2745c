use Rattle.std.proofs.Common.{◌≡◌, rules}
use Rattle.obj36_parts.specs.Sections.{same_section}
use Rattle.alm_asm.proofs.SameSections.{section_decided}
use Rattle.alm_asm.proofs.links.same_section.Goals as goal

pub returns-clause-decides : goal.returns-clause-decides
returns-clause-decides c =
    section_decided c.args.a c.args.b _ (first_of (search rules, cc))
