-- Setting a used mark changes nothing of a page table word except its marks.
use Rattle.std.proofs.Common.{ℕ, ◌≡◌, ◌+◌, ◌/◌, ◌%◌, ◌^◌, ◌<◌, ◌⊎◌, List, length, get_or, set, sym, ap, inl, inr, ◌∙◌, arith}
use Rattle.std.proofs.lemmas.Bool.{cases_eq}
use Rattle.std.proofs.lemmas.List.{get_or-set_same, get_or-set_other}
use Rattle.m36_model.specs.Core.{unmarked}
use Rattle.m36_page.specs.Fields.{PagerFields}
use Rattle.m36_page.specs.Residence.{spot_of, AgreesWithCore}

unmarked_used : (w v : ℕ) → w < 2 ^ 36 → w / 512 % 2 ≡ 0 → v ≡ (w + 512) % 2 ^ 36 → unmarked v ≡ unmarked w
unfolding unmarked
unmarked_used w v low off is = omega (arith, low, off, is)

pub used_reads :
    (p : PagerFields) (core : List ℕ) (place w v : ℕ)
    → AgreesWithCore p core → place < length core → w ≡ get_or core place 0 → w < 2 ^ 36
    → w / 512 % 2 ≡ 0 → v ≡ (w + 512) % 2 ^ 36 → AgreesWithCore p (set core place v)
used_reads p core place w v reads inside is low off put = record {
  pages = λ seg page has.
      elim (reads.pages seg page has) [
        | inl absent ↦ inl (same (spot_of p seg page) ∙ absent)
        | inr there ↦ inr (there.0, there.1, same (spot_of p seg page) ∙ there.2)
      ];
  frames = λ k seg page h. same (spot_of p seg page) ∙ reads.frames k seg page h;
}
  where
    same : (a : ℕ) → unmarked (get_or (set core place v) a 0) ≡ unmarked (get_or core a 0)
    same a =
        elim (cases_eq a place) [
          | inl here ↦
              ap (λ n. unmarked (get_or (set core place v) n 0)) here
              ∙ ap unmarked (get_or-set_same core place v 0 inside)
              ∙ unmarked_used w v low off put ∙ ap unmarked is ∙ sym (ap (λ n. unmarked (get_or core n 0)) here)
          | inr other ↦ ap unmarked (get_or-set_other core place a v 0 other)
        ]
