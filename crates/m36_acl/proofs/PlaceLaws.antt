-- Segments by their directories and names.
use Rattle.std.proofs.Common.{ℕ, suc, zero, ◌≡◌, Bool, false, cond, ◌&&◌, ◌||◌, List, [], ◌∷◌, ◌++◌, get_or, refl, sym, ap, ◌∙◌}
use Rattle.std.specs.Prelude.{slice_set}
use Rattle.std.specs.List.{list_any}
use Rattle.std.proofs.lemmas.Cmp.{nat_list_eq_equiv}
use Rattle.std.proofs.lemmas.List.{map-append}
use Rattle.m36_text.specs.Texts.{are_same}
use Rattle.m36_dir.specs.BootOrder.{Entry, entry}
use Rattle.m36_acl.specs.Fields.{AclSegmentFields}
use Rattle.m36_acl.specs.AccessLists.{Lists, entries_of_lists, has_segment}

abbrev same_place : Entry → Entry → Bool
same_place given key = are_same given.dir key.dir && are_same given.name key.name

-- a segment in a table, and among the lists
among : (given : Entry) (lists : Lists) → list_any (same_place given) (entries_of_lists lists) ≡ has_segment lists given
among given [] = refl
among given (s ∷ lists) =
    λ i. (nat_list_eq_equiv.symm given.dir s.dir i && nat_list_eq_equiv.symm given.name s.name i) || among given lists i

pub found : (given : Entry) (keys : List Entry) (lists : Lists) → keys ≡ entries_of_lists lists
    → list_any (same_place given) keys ≡ has_segment lists given
found given keys lists e = ap (λ (ks : List Entry). list_any (same_place given) ks) e ∙ among given lists

-- one more at the end
one_more : (given : Entry) (keys new : List Entry) (lists more : Lists) (s : AclSegmentFields) → keys ≡ entries_of_lists lists
    → given ≡ entry s.dir s.name → has_segment lists given ≡ false
    → new ≡ cond (list_any (same_place given) keys) keys (keys ++ given ∷ [])
    → more ≡ lists ++ s ∷ [] → new ≡ entries_of_lists more
one_more given keys new lists more s are is fresh grown longer =
    grown ∙ ap (λ (b : Bool). cond b keys (keys ++ given ∷ [])) (found given keys lists are ∙ fresh)
    ∙ ap (λ (ks : List Entry). ks ++ given ∷ []) are
    ∙ ap (λ (g : Entry). entries_of_lists lists ++ g ∷ []) is
    ∙ sym (map-append (λ (t : AclSegmentFields). entry t.dir t.name) lists (s ∷ []))
    ∙ ap entries_of_lists (sym longer)

-- a segment that was inserted in the table, and the lists
pub place_put : (keys new : List Entry) (items held more now : Lists) (s : AclSegmentFields) (given : Entry)
    → keys ≡ entries_of_lists items → held ≡ items
    → more ≡ held ++ s ∷ [] → given ≡ entry s.dir s.name
    → new ≡ cond (list_any (same_place given) keys) keys (keys ++ given ∷ [])
    → items ≡ now → has_segment now given ≡ false → new ≡ entries_of_lists more
place_put keys new items held more now s given are stays put is grown view fresh =
    one_more given keys new items more s are is (ap (λ (ps : Lists). has_segment ps given) view ∙ fresh) grown
    (put ∙ ap (λ (ps : Lists). ps ++ s ∷ []) stays)

-- replacing a segment by one with the same directory and name
pub places_kept : (lists : Lists) (i : ℕ) (old new : AclSegmentFields) → old ≡ get_or lists i old
    → new.dir ≡ old.dir → new.name ≡ old.name → entries_of_lists (slice_set lists i new) ≡ entries_of_lists lists
places_kept [] i old new was d n = refl
places_kept (s ∷ lists) zero old new was d n =
    let dir : new.dir ≡ s.dir = d ∙ ap (λ (t : AclSegmentFields). t.dir) was in
    let name : new.name ≡ s.name = n ∙ ap (λ (t : AclSegmentFields). t.name) was in
    λ j. entry (dir j) (name j) ∷ entries_of_lists lists
places_kept (s ∷ lists) (suc i) old new was d n =
    ap (λ (ks : List Entry). entry s.dir s.name ∷ ks) (places_kept lists i old new was d n)
