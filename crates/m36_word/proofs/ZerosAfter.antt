-- Numbers of which those after the last that is written are zero.
use Rattle.std.proofs.Common.{ℕ, zero, suc, ◌≡◌, ◌+◌, ◌-◌, ◌<◌, ◌≤◌, List, [], ◌∷◌, ◌++◌, length, get_or, set, replicate, refl, sym, ap, ◌∙◌, arith, append_assoc}
use Rattle.std.proofs.lemmas.List.{get_or_past, length-append, length-replicate, length-set, replicate-append-replicate, set-append_left}

-- a list of zeros
abbrev pub zeros : ℕ → List ℕ
zeros n = replicate n 0

-- the numbers, and zeros after them up to a count
abbrev pub filled : List ℕ → ℕ → List ℕ
filled numbers count = numbers ++ zeros (count - length numbers)

pub length-zeros : (n : ℕ) → length (zeros n) ≡ n
length-zeros n = length-replicate {A = ℕ} n 0

pub length-filled : (numbers : List ℕ) (count : ℕ) → length numbers ≤ count → length (filled numbers count) ≡ count
length-filled numbers count le =
    let all = length-append numbers (zeros (count - length numbers)) in
    let size-zeros = length-zeros (count - length numbers) in
    omega (arith, all, size-zeros, le)

-- a number of them is that of the numbers, or zero
read-zeros : (n i : ℕ) → get_or (zeros n) i 0 ≡ 0
read-zeros zero i = get_or_past [] i 0 (omega arith)
read-zeros (suc n) zero = refl
read-zeros (suc n) (suc i) = read-zeros n i

read-after : (numbers : List ℕ) (n i : ℕ) → get_or (numbers ++ zeros n) i 0 ≡ get_or numbers i 0
read-after [] n i = read-zeros n i ∙ sym (get_or_past [] i 0 (omega arith))
read-after (w ∷ numbers) n zero = refl
read-after (w ∷ numbers) n (suc i) = read-after numbers n i

pub get_or-filled : (numbers : List ℕ) (count i : ℕ) → get_or (filled numbers count) i 0 ≡ get_or numbers i 0
get_or-filled numbers count i = read-after numbers (count - length numbers) i

-- written up to a number, they read as before
filled-twice : (numbers : List ℕ) (n count : ℕ) → length numbers ≤ count → n ≤ count → filled (filled numbers n) count ≡ filled numbers count
filled-twice numbers n count le most =
    let a : ℕ = n - length numbers in
    let b : ℕ = count - length (filled numbers n) in
    let all = length-append numbers (zeros a) in
    let size-zeros = length-zeros a in
    let same : a + b ≡ count - length numbers = omega (arith, all, size-zeros, le, most) in
    append_assoc numbers (zeros a) (zeros b)
    ∙ ap (λ l. numbers ++ l) (replicate-append-replicate {A = ℕ} a b 0 ∙ ap (λ k. zeros k) same)

-- a number that is set among those that are written
pub set-filled : (numbers more new : List ℕ) (n count i v : ℕ) → length numbers ≤ count → n ≤ count → more ≡ filled numbers n → i < n → new ≡ set more i v
    → filled new count ≡ set (filled numbers count) i v
set-filled numbers more new n count i v le most is small written =
    let size : length new ≡ length more = ap length written ∙ length-set more i v in
    let all = length-append numbers (zeros (n - length numbers)) in
    let size-zeros = length-zeros (n - length numbers) in
    let long : length more ≡ length (filled numbers n) = ap length is in
    let here : i < length more = omega (arith, all, size-zeros, long, small) in
    ap (λ k. new ++ zeros (count - k)) size
    ∙ ap (λ l. l ++ zeros (count - length more)) written
    ∙ sym (set-append_left more (zeros (count - length more)) i v here)
    ∙ ap (λ l. set (filled l count) i v) is
    ∙ ap (λ l. set l i v) (filled-twice numbers n count le most)
