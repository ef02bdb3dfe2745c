-- Page table words that are laid out.
use Rattle.std.proofs.Common.{ℕ, ◌≡◌, ◌≢◌, ◌+◌, ◌-◌, ◌*◌, ◌<◌, ◌≤◌, ◌⊎◌, true, List, [], ◌∷◌, length, get_or, map, Some, refl, sym, ap, subst, inl, inr, ◌∙◌, arith}
use Rattle.std.specs.Prelude.{slice_get, position, All}
use Rattle.std.proofs.lemmas.Bool.{cases_lt, cases_eq}
use Rattle.std.proofs.lemmas.Option.{slice_get-get_or}
use Rattle.std.proofs.lemmas.List.Elements.{All-nil, All-cons}
use Rattle.m36_model.specs.Core.{unmarked}
use Rattle.m36_page.specs.declared.table.PageTable.{PageTable}
use Rattle.m36_page.specs.Fields.{TableFields, PagerFields}
use Rattle.m36_page.specs.Copied.{IsFilled}
use Rattle.m36_page.specs.Residence.{is_table_of, has_page, spot_of, absent_ptw, AgreesWithCore}
use Rattle.m36_page.specs.Changes.{AreAbsent, AllEmpty}
use Rattle.m36_page.specs.Given.{filled_table, are_placed}
use Rattle.m36_page.proofs.Frames.{absent_unmarked}
use Rattle.m36_page.proofs.Tables.{found, placed}
use Rattle.m36_page.proofs.Built.{has_table, spot_by, page_inside}
use Rattle.m36_page.proofs.Placed.{position_some, split, below_end}

same_table : (t u : TableFields) → Some t ≡ Some u → t ≡ u
same_table t u e = cc

filled_at : (at count : ℕ) (mid now : List ℕ) → IsFilled at count absent_ptw mid now → (a : ℕ) → at ≤ a → a < at + count
    → get_or now a 0 ≡ absent_ptw
filled_at at count mid now filled a low high =
    let there : at + (a - at) ≡ a = omega (arith, low) in
    ap (λ n. get_or now n 0) (sym there) ∙ filled.inside (a - at) (omega (arith, low, high))

-- one more table
pub absent_more : (tables : List TableFields) (i : ℕ) (core mid now : List ℕ) (t : TableFields) → i < length tables → t ≡ get_or tables i t
    → AreAbsent tables i core mid → IsFilled t.at t.pages absent_ptw mid now → AreAbsent tables (i + 1) core now
absent_more tables i core mid now t lt is so_far filled =
    let at : slice_get tables i ≡ Some t = slice_get-get_or tables i t lt ∙ ap (λ x. Some x) (sym is) in
    record {
      size = filled.size ∙ so_far.size;
      absent = λ j u q few here inside.
          elim (cases_eq j i) [
            | inl same ↦
                let P : ℕ → Type 0 = λ n. slice_get tables n ≡ Some u in
                let equal : t ≡ u = same_table t u (sym at ∙ subst P same here) in
                let Q : TableFields → Type 0 = λ x. IsFilled x.at x.pages absent_ptw mid now in
                (subst Q equal filled).inside q inside
            | inr other ↦
                let before = so_far.absent j u q (omega (arith, few, other)) here inside in
                elim (cases_lt (u.at + q) t.at) [
                  | inl low ↦ filled.outside (u.at + q) (inl low) ∙ before
                  | inr high ↦
                      elim (cases_lt (u.at + q) (t.at + t.pages)) [
                        | inl within ↦ filled_at t.at t.pages mid now filled (u.at + q) high within
                        | inr past ↦ filled.outside (u.at + q) (inr past) ∙ before
                      ]
                ]
          ];
      others = λ a out.
          let elsewhere : (a < t.at) ⊎ (t.at + t.pages ≤ a) =
          elim (cases_lt a t.at) [
            | inl low ↦ inl low
            | inr high ↦
                elim (cases_lt a (t.at + t.pages)) [
                  | inl within ↦ absurd (out (i, t, at, high, within))
                  | inr past ↦ inr past
                ]
          ] in
          filled.outside a elsewhere ∙ so_far.others a out;
    }

none_table : TableFields
none_table = record { seg = 0; at = 0; pages = 0; words = [] }

laid_page : (p : PagerFields) (core now : List ℕ) (s q i : ℕ) → position (is_table_of s) p.tables ≡ Some i → has_page p s q ≡ true
    → AreAbsent p.tables (length p.tables) core now → unmarked (get_or now (spot_of p s q) 0) ≡ absent_ptw
laid_page p core now s q i at has laid =
    let is = found p.tables s i none_table at in
    let here : slice_get p.tables i ≡ Some (get_or p.tables i none_table) = slice_get-get_or p.tables i none_table is.0 in
    let inside = page_inside p s q i none_table at has in
    ap (λ a. unmarked (get_or now a 0)) (spot_by p s q i none_table at)
    ∙ ap unmarked (laid.absent i (get_or p.tables i none_table) q is.0 here inside) ∙ absent_unmarked

-- after laying, the page table words are those of pages in no frame
pub laid_reads : (p : PagerFields) (core now : List ℕ) → AllEmpty p → AreAbsent p.tables (length p.tables) core now → AgreesWithCore p now
laid_reads p core now empty laid = record {
  pages = λ s q has.
      let at = position_some p.tables s (position (is_table_of s) p.tables) refl (placed p.tables s (has_table p s q has)) in
      inl (laid_page p core now s q at.0 at.1 has laid);
  frames = λ k s q h. absurd (empty k s q h);
}

-- ---- a pager that was given

pub below_given : (first : ℕ) (tables : List PageTable) → are_placed first tables ≡ true
    → All (λ (t : TableFields). t.at + t.pages ≤ 1024 * first) (map filled_table tables)
below_given first [] e = All-nil (λ (t : TableFields). t.at + t.pages ≤ 1024 * first)
below_given first (t ∷ tables) e =
    let parts = split first t tables e in
    All-cons (λ (t : TableFields). t.at + t.pages ≤ 1024 * first) (filled_table t) (map filled_table tables)
    (below_end first t parts.0).0 (below_given first tables parts.2)
