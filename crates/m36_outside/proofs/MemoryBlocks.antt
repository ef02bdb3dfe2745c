-- A block that an output in memory takes, piece by piece.
use Rattle.std.proofs.Common.{◌≡◌, ℕ, ◌+◌, ◌<◌, ◌≤◌, Bool, true, false, ◌||◌, List, [], ◌∷◌, length, get_or, drop, if◌then◌else◌, refl, sym, ap, subst, ◌∙◌}
use Rattle.std.specs.Prelude.{IsTrue, ◌↔◌}
use Rattle.std.proofs.lemmas.List.{drop_all, drop_more}
use Rattle.m36_outside.specs.declared.sink.Put.TheVariants.{Done, Failed}
use Rattle.m36_outside.specs.MemSink.{MemSinkFields, put_fails, after_put, block_fails, after_block}

-- the pieces from an index on
rest_is :
    (pieces : List (List ℕ)) (place : ℕ) (piece : List ℕ)
    → place < length pieces → piece ≡ get_or pieces place [] → drop place pieces ≡ piece ∷ drop (place + 1) pieces
rest_is pieces place piece inside is =
    drop_more pieces place [] inside ∙ ap (λ p. p ∷ drop (place + 1) pieces) (sym is)

first_after :
    (now : MemSinkFields) (piece : List ℕ) (more : List (List ℕ)) (b : Bool) → put_fails now piece ≡ b
    → after_block now (piece ∷ more) ≡ (if b then after_put now piece else after_block (after_put now piece) more)
unfolding after_block
first_after now piece more b is =
    ap (λ (x : Bool). if x then after_put now piece else after_block (after_put now piece) more) is

first_fails :
    (now : MemSinkFields) (piece : List ℕ) (more : List (List ℕ)) (b : Bool) → put_fails now piece ≡ b
    → block_fails now (piece ∷ more) ≡ (b || block_fails (after_put now piece) more)
unfolding block_fails
first_fails now piece more b is = ap (λ (x : Bool). x || block_fails (after_put now piece) more) is

-- by the answer of a put
no_fault : (b : Bool) → (Done ≡ Failed) ↔ IsTrue b → b ≡ false
no_fault true says = let e : Done ≡ Failed = says.1 (cc) in absurd (cc)
no_fault false says = refl

a_fault : (b : Bool) → (Failed ≡ Failed) ↔ IsTrue b → b ≡ true
a_fault true says = refl
a_fault false says = let t : IsTrue false = says.0 refl in absurd (cc)

pub after_on :
    (start now next : MemSinkFields) (pieces : List (List ℕ)) (place : ℕ) (piece : List ℕ)
    → after_block start pieces ≡ after_block now (drop place pieces)
    → (Done ≡ Failed) ↔ IsTrue (put_fails now piece) → next ≡ after_put now piece
    → place < length pieces → piece ≡ get_or pieces place []
    → after_block start pieces ≡ after_block next (drop (place + 1) pieces)
after_on start now next pieces place piece so says is inside here =
    so ∙ ap (after_block now) (rest_is pieces place piece inside here)
    ∙ first_after now piece (drop (place + 1) pieces) false (no_fault (put_fails now piece) says)
    ∙ ap (λ s. after_block s (drop (place + 1) pieces)) (sym is)

pub fails_on :
    (start now next : MemSinkFields) (pieces : List (List ℕ)) (place : ℕ) (piece : List ℕ)
    → block_fails start pieces ≡ block_fails now (drop place pieces)
    → (Done ≡ Failed) ↔ IsTrue (put_fails now piece) → next ≡ after_put now piece
    → place < length pieces → piece ≡ get_or pieces place []
    → block_fails start pieces ≡ block_fails next (drop (place + 1) pieces)
fails_on start now next pieces place piece so says is inside here =
    so ∙ ap (block_fails now) (rest_is pieces place piece inside here)
    ∙ first_fails now piece (drop (place + 1) pieces) false (no_fault (put_fails now piece) says)
    ∙ ap (λ s. block_fails s (drop (place + 1) pieces)) (sym is)

pub after_cut :
    (start now next : MemSinkFields) (pieces : List (List ℕ)) (place : ℕ) (piece : List ℕ)
    → after_block start pieces ≡ after_block now (drop place pieces)
    → (Failed ≡ Failed) ↔ IsTrue (put_fails now piece) → next ≡ after_put now piece
    → place < length pieces → piece ≡ get_or pieces place [] → next ≡ after_block start pieces
after_cut start now next pieces place piece so says is inside here =
    is ∙ sym (so ∙ ap (after_block now) (rest_is pieces place piece inside here)
    ∙ first_after now piece (drop (place + 1) pieces) true (a_fault (put_fails now piece) says))

pub fails_cut :
    (start now : MemSinkFields) (pieces : List (List ℕ)) (place : ℕ) (piece : List ℕ)
    → block_fails start pieces ≡ block_fails now (drop place pieces)
    → (Failed ≡ Failed) ↔ IsTrue (put_fails now piece)
    → place < length pieces → piece ≡ get_or pieces place []
    → (Failed ≡ Failed) ↔ IsTrue (block_fails start pieces)
fails_cut start now pieces place piece so says inside here =
    let told : block_fails start pieces ≡ true =
    so ∙ ap (block_fails now) (rest_is pieces place piece inside here)
    ∙ first_fails now piece (drop (place + 1) pieces) true (a_fault (put_fails now piece) says) in
    (λ _. subst IsTrue (sym told) (cc), λ _. refl)

pub after_all :
    (start now : MemSinkFields) (pieces : List (List ℕ)) (place : ℕ)
    → after_block start pieces ≡ after_block now (drop place pieces) → length pieces ≤ place
    → now ≡ after_block start pieces
unfolding after_block
after_all start now pieces place so all = sym (so ∙ ap (after_block now) (drop_all place pieces all))

pub fails_all :
    (start now : MemSinkFields) (pieces : List (List ℕ)) (place : ℕ)
    → block_fails start pieces ≡ block_fails now (drop place pieces) → length pieces ≤ place
    → (Done ≡ Failed) ↔ IsTrue (block_fails start pieces)
unfolding block_fails
fails_all start now pieces place so all =
    let told : block_fails start pieces ≡ false = so ∙ ap (block_fails now) (drop_all place pieces all) in
    (λ e. absurd (cc), λ t. let f : IsTrue false = subst IsTrue told t in absurd (cc))

pub ruleset in_memory = (after_on, fails_on, after_cut, fails_cut, after_all, fails_all)
