-- The descriptor segment base registers of processes, one after another.
use Rattle.std.proofs.Common.{◌≡◌, ℕ, zero, suc, ◌+◌, ◌≤◌, length, refl, sym, ◌∙◌, ap, arith}
use Rattle.std.specs.Prelude.{List, [], ◌∷◌, ◌++◌, map, drop, slice_get, Some}
use Rattle.std.proofs.lemmas.List.{append_assoc, append-nil}
use Rattle.std.proofs.Math.ListN.{drop_of_length-le}
use Rattle.m36_desc.specs.Fields.{DbrFields}
use Rattle.m36_model.specs.Registers.{RegsFields}

abbrev pub bases : List RegsFields → List DbrFields
bases regs = map (λ g. g.dbr) regs

pub drop_at : {A : Type 0} (xs : List A) (n : ℕ) (a : A) → slice_get xs n ≡ Some a → drop n xs ≡ a ∷ drop (suc n) xs
drop_at [] n a h = cc
drop_at (x ∷ xs) zero a h = let same : x ≡ a = cc in ap (λ y. y ∷ xs) same
drop_at (x ∷ xs) (suc n) a h = drop_at xs n a h

pub bases_more : (regs : List RegsFields) (n : ℕ) (g : RegsFields) (dbrs after : List DbrFields) → slice_get regs n ≡ Some g → after ≡ dbrs ++ g.dbr ∷ [] → dbrs ++ bases (drop n regs) ≡ bases regs → after ++ bases (drop (n + 1) regs) ≡ bases regs
bases_more regs n g dbrs after at put so_far =
    let next : n + 1 ≡ suc n = omega arith in
    ap (λ (l : List DbrFields). l ++ bases (drop (n + 1) regs)) put
    ∙ append_assoc dbrs (g.dbr ∷ []) (bases (drop (n + 1) regs))
    ∙ ap (λ (m : ℕ). dbrs ++ (g.dbr ∷ bases (drop m regs))) next
    ∙ ap (λ (l : List RegsFields). dbrs ++ bases l) (sym (drop_at regs n g at))
    ∙ so_far

pub bases_all : (regs : List RegsFields) (n : ℕ) (dbrs : List DbrFields) → length regs ≤ n → dbrs ++ bases (drop n regs) ≡ bases regs → dbrs ≡ bases regs
bases_all regs n dbrs past so_far =
    let none : drop n regs ≡ [] = drop_of_length-le regs past in
    sym (append-nil dbrs) ∙ ap (λ (l : List RegsFields). dbrs ++ bases l) (sym none) ∙ so_far

pub bases_length : (regs : List RegsFields) → length (bases regs) ≡ length regs
bases_length [] = refl
bases_length (g ∷ regs) = ap suc (bases_length regs)
