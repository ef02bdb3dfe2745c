-- Two sections are the same exactly if the test says so.
use Rattle.std.proofs.Common.{◌≡◌, ◌↔◌, Bool, true, false, refl, sym, ap, ◌∙◌, true≢false}
use Rattle.obj36_parts.specs.declared.section.Section.{Section}
use Rattle.obj36_parts.specs.declared.section.Section.TheVariants.{Text, Linkage, Symbol, Static}
use Rattle.obj36_parts.specs.Sections.{same_section}

only_same : (a b : Section) → same_section a b ≡ true → a ≡ b
only_same Text Text e = refl
only_same Text Linkage e = absurd (true≢false (sym e))
only_same Text Symbol e = absurd (true≢false (sym e))
only_same Text Static e = absurd (true≢false (sym e))
only_same Linkage Text e = absurd (true≢false (sym e))
only_same Linkage Linkage e = refl
only_same Linkage Symbol e = absurd (true≢false (sym e))
only_same Linkage Static e = absurd (true≢false (sym e))
only_same Symbol Text e = absurd (true≢false (sym e))
only_same Symbol Linkage e = absurd (true≢false (sym e))
only_same Symbol Symbol e = refl
only_same Symbol Static e = absurd (true≢false (sym e))
only_same Static Text e = absurd (true≢false (sym e))
only_same Static Linkage e = absurd (true≢false (sym e))
only_same Static Symbol e = absurd (true≢false (sym e))
only_same Static Static e = refl

itself : (a : Section) → same_section a a ≡ true
itself Text = refl
itself Linkage = refl
itself Symbol = refl
itself Static = refl

pub section_decided : (a b : Section) (result : Bool) → result ≡ same_section a b → (result ≡ true) ↔ (a ≡ b)
section_decided a b result is =
    (λ e. only_same a b (sym is ∙ e), λ same. is ∙ ap (same_section a) (sym same) ∙ itself a)
