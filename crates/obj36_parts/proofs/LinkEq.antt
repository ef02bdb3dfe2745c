-- Links are compared by all their fields.
use Rattle.std.proofs.Common.{◌≡◌, Bool, true, false, ◌&&◌, eqb, refl, ap, ◌∙◌}
use Rattle.obj36_parts.specs.Fields.{LinkFields}
use Rattle.obj36_parts.specs.declared.section.Section.{Section}
use Rattle.obj36_parts.specs.declared.section.Section.TheVariants.{Text, Linkage, Symbol, Static}
use Rattle.obj36_parts.specs.Sections.{section_number}
use Rattle.obj36_parts.specs.Names.{same}
use Rattle.obj36_parts.specs.Indexes.{same_link}
use Rattle.obj36_parts.specs.contracts.link.LinkPartialEq.TheImpl as linkeq
use Rattle.obj36_parts.specs.contracts.section.SectionPartialEq.TheImpl as sectioneq

same_section : (a b : Section) → (sectioneq.ghosts).eq a b ≡ eqb (section_number a) (section_number b)
same_section Text Text = refl
same_section Text Linkage = refl
same_section Text Symbol = refl
same_section Text Static = refl
same_section Linkage Text = refl
same_section Linkage Linkage = refl
same_section Linkage Symbol = refl
same_section Linkage Static = refl
same_section Symbol Text = refl
same_section Symbol Linkage = refl
same_section Symbol Symbol = refl
same_section Symbol Static = refl
same_section Static Text = refl
same_section Static Linkage = refl
same_section Static Symbol = refl
same_section Static Static = refl

none_true : (n e x : Bool) → (n && (e && (x && false))) ≡ false
none_true true true true = refl
none_true true true false = refl
none_true true false x = refl
none_true false e x = refl

turned : (n e x k s m : Bool) → (n && (e && (x && (k && (s && m))))) ≡ (((((k && s) && n) && e) && x) && m)
turned true true true true true m = refl
turned true true false true true m = refl
turned true false x true true m = refl
turned false e x true true m = refl
turned n e x true false m = none_true n e x
turned n e x false s m = none_true n e x

pub derived_same : (a b : LinkFields) → (linkeq.ghosts).eq a b ≡ same_link a b
unfolding same_link
derived_same a b =
    ap (λ s. same a.name b.name && (same a.entry b.entry && (eqb a.expr b.expr && (eqb a.kind b.kind && (s && eqb a.modifier b.modifier))))) (same_section a.section b.section)
    ∙ turned (same a.name b.name) (same a.entry b.entry) (eqb a.expr b.expr) (eqb a.kind b.kind) (eqb (section_number a.section) (section_number b.section)) (eqb a.modifier b.modifier)
