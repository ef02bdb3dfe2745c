-- The element that `find` returns.
use Rattle.std.proofs.Common.{◌≡◌, Bool, true, false, cond, not, ◌&&◌, Option, Some, List, [], ◌∷◌, refl, sym, ap}
use Rattle.std.specs.List.{find, list_all}
use Rattle.std.proofs.lemmas.Bool.{and_parts, not-true}

-- the element is the head, or comes later
found_by : {X : Type 0} (p q : X → Bool) (b : Bool) (y x : X) (rest : Option X) → p y ≡ b → cond b (Some y) rest ≡ Some x → (rest ≡ Some x → q x ≡ true) → (p y ≡ true → q y ≡ true) → q x ≡ true
found_by p q true y x rest e h later here =
    let same : y ≡ x = cc in
    let known : q y ≡ true = here e in
    cc
found_by p q false y x rest e h later here = later h

-- the element passes the test by which it was found
pub found_passes : {X : Type 0} (p : X → Bool) (xs : List X) (x : X) → find p xs ≡ Some x → p x ≡ true
found_passes p [] x h = cc
found_passes p (y ∷ ys) x h = found_by p p (p y) y x (find p ys) refl h (found_passes p ys x) (λ e. e)

-- the element passes each test that all elements pass
pub found_sound : {X : Type 0} (p q : X → Bool) (xs : List X) (x : X) → list_all q xs ≡ true → find p xs ≡ Some x → q x ≡ true
found_sound p q [] x all h = cc
found_sound p q (y ∷ ys) x all h =
    let parts = and_parts (q y) (list_all q ys) all in
    found_by p q (p y) y x (find p ys) refl h (found_sound p q ys x parts.1) (λ e. parts.0)

-- no element passes the test that finds a later one
abbrev pub apart : {X : Type 0} → (X → X → Bool) → List X → Bool
apart key [] = true
apart key (y ∷ ys) = list_all (λ x. not (key x y)) ys && apart key ys

keyed_by : {X : Type 0} (b : Bool) (y x : X) (rest rest_by_key : Option X) (by_key : Bool) → cond b (Some y) rest ≡ Some x → (b ≡ true → x ≡ y → by_key ≡ true) → (rest ≡ Some x → by_key ≡ false) → (rest ≡ Some x → rest_by_key ≡ Some x) → cond by_key (Some y) rest_by_key ≡ Some x
keyed_by true y x rest rest_by_key by_key h here there later =
    let same : y ≡ x = cc in
    rw (here refl (sym same)) (ap Some same)
keyed_by false y x rest rest_by_key by_key h here there later = rw (there h) (later h)

-- if elements are apart, the one that any test finds is also found by its own key
pub found_by_key : {X : Type 0} (key : X → X → Bool) (p : X → Bool) (xs : List X) (x : X) → ((y : X) → key y y ≡ true) → apart key xs ≡ true → find p xs ≡ Some x → find (key x) xs ≡ Some x
found_by_key key p [] x own distinct h = cc
found_by_key key p (y ∷ ys) x own distinct h =
    let parts = and_parts (list_all (λ z. not (key z y)) ys) (apart key ys) distinct in
    keyed_by (p y) y x (find p ys) (find (key x) ys) (key x y) h (λ e same. rw same (own y)) (λ e. not-true (key x y) (found_sound p (λ z. not (key z y)) ys x parts.0 e)) (found_by_key key p ys x own parts.1)
