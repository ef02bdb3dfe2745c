-- What a link service writes, from the parts of its answer.
use Rattle.std.proofs.Common.{◌≡◌, sym, subst}
use Rattle.std.specs.Prelude.{ℕ, List, [], ◌∷◌, length, Option, None, Some}
use Rattle.m36_model.specs.Fields.{AtFields}
use Rattle.m36_model.specs.Store.{Change}
use Rattle.m36_page.specs.Fields.{PagerFields}
use Rattle.m36_link.specs.Fields.{SnapFields, NewSectionFields}
use Rattle.m36_link.specs.Known.{linkage_segment, lot_word}
use Rattle.m36_super.specs.Laying.{written_from, section_changes}
use Rattle.m36_super.specs.Services.{link_changes}
use Rattle.m36_super.specs.SuperFields.{IsManaged}
use Rattle.m36_super.specs.Writing.{ArePut}
use Rattle.m36_super.proofs.LinkTurns.{put_section, put_nothing, put_changes}

pub section_put : (core mid now : List ℕ) (p r q : PagerFields) (l : NewSectionFields) (ring base seg lot : ℕ) (words : List ℕ) → ring ≡ l.ring → base ≡ l.base → seg ≡ l.seg → words ≡ l.words → lot ≡ lot_word l → ArePut core p mid r (written_from (linkage_segment ring) base words) → ArePut mid r now q (written_from (linkage_segment ring) seg (lot ∷ [])) → ArePut core p now q (section_changes (Some l))
section_put core mid now p r q l ring base seg lot words ring_is base_is seg_is words_are lot_is first second =
    put_section core mid now p r q l
    (subst (λ (changes : List Change). ArePut core p mid r changes) (λ i. written_from (linkage_segment (ring_is i)) (base_is i) (words_are i)) first)
    (subst (λ (changes : List Change). ArePut mid r now q changes) (λ i. written_from (linkage_segment (ring_is i)) (seg_is i) (lot_is i ∷ [])) second)

pub nothing_put : (core : List ℕ) (p : PagerFields) (lay : Option NewSectionFields) → lay ≡ None → IsManaged (length p.holders) core p → ArePut core p core p (section_changes lay)
nothing_put core p lay none managed =
    subst (λ (o : Option NewSectionFields). ArePut core p core p (section_changes o)) (sym none) (put_nothing core p managed)

pub changes_put : (core mid now : List ℕ) (p r q : PagerFields) (at : AtFields) (s : SnapFields) (ring word even odd : ℕ) (lay : Option NewSectionFields) → at.seg ≡ linkage_segment at.ring → ring ≡ at.ring → word ≡ at.word → even ≡ s.pair.even → odd ≡ s.pair.odd → lay ≡ s.lay → ArePut core p mid r (written_from (linkage_segment ring) word (even ∷ odd ∷ [])) → ArePut mid r now q (section_changes lay) → ArePut core p now q (link_changes at s)
changes_put core mid now p r q at s ring word even odd lay seg ring_is word_is even_is odd_is lay_is first second =
    put_changes core mid now p r q at s seg
    (subst (λ (changes : List Change). ArePut core p mid r changes) (λ i. written_from (linkage_segment (ring_is i)) (word_is i) (even_is i ∷ odd_is i ∷ [])) first)
    (subst (λ (o : Option NewSectionFields). ArePut mid r now q (section_changes o)) lay_is second)
