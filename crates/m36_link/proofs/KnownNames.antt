-- The results of look-ups of initiated names.
use Rattle.std.proofs.Common.{ℕ, ◌≡◌, ◌<◌, ◌≤◌, ◌^◌, Bool, false, cond, ◌&&◌, eqb, List, [], ◌∷◌, ◌++◌, length, Option, Some, None, IfSome, refl, sym, ap, ◌∙◌, subst, arith}
use Rattle.std.specs.Map.{lookup}
use Rattle.std.proofs.Math.Nat.{lt_of_not-le}
use Rattle.std.proofs.lemmas.Bool.{false_from_ne_true}
use Rattle.std.proofs.lemmas.List.Elements.{All-tail, All-head, All-push, All-same}
use Rattle.std.proofs.lemmas.Map.Entries.{All-lookup}
use Rattle.indexmap.specs.IndexMap.{IndexMap, insert_entry}
use Rattle.indexmap.proofs.CallerLemmas.{insert_entry-new}
use Rattle.m36_text.specs.declared.seeds.HashSeed.{HashSeed}
use Rattle.obj36_parts.specs.Names.{same}
use Rattle.obj36_parts.proofs.SizeLaws.{same_is}
use Rattle.m36_link.specs.Fields.{RingNameFields}
use Rattle.m36_link.specs.Names.{IsInitiated, AreNames}
use Rattle.m36_link.specs.Known.{is_same_name, initiated_segment}

other_length : (a b : List ℕ) → length b < length a → same a b ≡ false
other_length a b h = false_from_ne_true (same a b) (λ e. let n : length a ≡ length b = ap length (same_is a b e) in omega (arith, n))

-- a name that is too long is not among them
pub long_absent : (ring : ℕ) (name : List ℕ) (names : List (RingNameFields × ℕ)) → AreNames names → ¬ (length name ≤ 32) → None ≡ initiated_segment names ring name
unfolding initiated_segment
long_absent ring name [] all long = refl
long_absent ring name (e ∷ es) all long =
    let n = (All-head IsInitiated e es all).name in
    let over = lt_of_not-le long in
    let first : length e.0.name < length name = omega (arith, n, over) in
    long_absent ring name es (All-tail IsInitiated e es all) long
    ∙ ap (λ b. cond (b && eqb ring e.0.ring) (Some e.1) (lookup (is_same_name (record { ring = ring; name = name })) es)) (sym (other_length name e.0.name first))

-- what is found is the number of a segment
pub found_below : (r : Option ℕ) (test : RingNameFields → Bool) (names : List (RingNameFields × ℕ)) → r ≡ lookup test names → AreNames names
    → IfSome r (λ seg. seg < 2 ^ 15)
found_below r test names e all =
    let P : Option ℕ → Type 0 = λ o. IfSome o (λ seg. seg < 2 ^ 15) in
    subst P (sym e) (All-lookup (λ seg. seg < 2 ^ 15) test names (λ k d h. (all k d h).seg))

-- a name that is not found is added at the end
pub goes_last : (m : IndexMap RingNameFields ℕ HashSeed) (name : RingNameFields) (target : ℕ) → None ≡ initiated_segment m.entries name.ring name.name
    → insert_entry is_same_name m.entries name target ≡ m.entries ++ (name, target) ∷ []
unfolding initiated_segment
goes_last m name target none = insert_entry-new is_same_name m name target (sym none)

-- the invariant holds with one more name
pub names_more : (old new : List (RingNameFields × ℕ)) (k : RingNameFields) (v : ℕ) → new ≡ old ++ (k, v) ∷ [] → AreNames old → length k.name ≤ 32 → v < 2 ^ 15
    → AreNames new
names_more old new k v e all n s = All-same IsInitiated new (old ++ (k, v) ∷ []) e (All-push IsInitiated old (k, v) all (record { name = n; seg = s }))
