-- Properties of a list, from those of the two parts into which a test divides it. So fewer elements
-- have to be compared with one another.
use Rattle.std.proofs.Common.{◌≡◌, ℕ, zero, suc, Bool, true, false, cond, not, ◌&&◌, ◌||◌, Option, Some, List, [], ◌∷◌, refl, ap}
use Rattle.std.specs.List.{find, filter, list_all, list_any}
use Rattle.std.proofs.lemmas.Bool.{and_parts, and_from}
use Rattle.m36_inst.proofs.Found.{apart}

abbrev pub others : {X : Type 0} → (X → Bool) → List X → List X
others q xs = filter (λ x. not (q x)) xs

-- An element is found in a part of the list if every element that passes the search is in this
-- part.
found_by :
    {X : Type 0} (p q : X → Bool) (y : X) (zs : List X) (rest : Option X) (b c : Bool) → p y ≡ b → q y ≡ c → (p y ≡ true → q y ≡ true)
    → rest ≡ find p zs → cond b (Some y) rest ≡ find p (cond c (y ∷ zs) zs)
found_by p q y zs rest true true is in_part within same = rw is refl
found_by p q y zs rest true false is in_part within same =
    let both : q y ≡ true = within is in
    absurd cc
found_by p q y zs rest false true is in_part within same = rw is same
found_by p q y zs rest false false is in_part within same = same

pub found_in_part : {X : Type 0} (p q : X → Bool) (xs : List X) → ((x : X) → p x ≡ true → q x ≡ true) → find p xs ≡ find p (filter q xs)
found_in_part p q [] within = refl
found_in_part p q (y ∷ ys) within =
    found_by p q y (filter q ys) (find p ys) (p y) (q y) refl refl (within y) (found_in_part p q ys within)

-- a test that all elements pass, or some element
all_by : {X : Type 0} (p q : X → Bool) (y : X) (ys : List X) (b : Bool) → q y ≡ b → list_all p (cond b (y ∷ filter q ys) (filter q ys)) ≡ true
    → list_all p (cond (not b) (y ∷ others q ys) (others q ys)) ≡ true
    → (list_all p (filter q ys) ≡ true → list_all p (others q ys) ≡ true → list_all p ys ≡ true) → (p y && list_all p ys) ≡ true
all_by p q y ys true is these those later =
    let parts = and_parts (p y) (list_all p (filter q ys)) these in
    and_from (p y) (list_all p ys) parts.0 (later parts.1 those)
all_by p q y ys false is these those later =
    let parts = and_parts (p y) (list_all p (others q ys)) those in
    and_from (p y) (list_all p ys) parts.0 (later these parts.1)

pub all_halves : {X : Type 0} (p q : X → Bool) (xs : List X) → list_all p (filter q xs) ≡ true → list_all p (others q xs) ≡ true → list_all p xs ≡ true
all_halves p q [] these those = refl
all_halves p q (y ∷ ys) these those = all_by p q y ys (q y) refl these those (all_halves p q ys)

pub all_imply : {X : Type 0} (p q : X → Bool) (xs : List X) → ((x : X) → p x ≡ true → q x ≡ true) → list_all p xs ≡ true → list_all q xs ≡ true
all_imply p q [] implies all = refl
all_imply p q (y ∷ ys) implies all =
    let parts = and_parts (p y) (list_all p ys) all in
    and_from (q y) (list_all q ys) (implies y parts.0) (all_imply p q ys implies parts.1)

any_by : (a b c d : Bool) → cond a (c || b) b ≡ true → (b ≡ true → d ≡ true) → (c || d) ≡ true
any_by true b true d any later = refl
any_by true b false d any later = later any
any_by false b true d any later = refl
any_by false b false d any later = later any

any_head : {X : Type 0} (p q : X → Bool) (y : X) (ys : List X) (b : Bool) → list_any p (cond b (y ∷ filter q ys) (filter q ys)) ≡ true → cond b (p y || list_any p (filter q ys)) (list_any p (filter q ys)) ≡ true
any_head p q y ys true any = any
any_head p q y ys false any = any

pub any_more : {X : Type 0} (p q : X → Bool) (xs : List X) → list_any p (filter q xs) ≡ true → list_any p xs ≡ true
any_more p q [] any = any
any_more p q (y ∷ ys) any =
    any_by (q y) (list_any p (filter q ys)) (p y) (list_any p ys) (any_head p q y ys (q y) any) (any_more p q ys)

-- The elements are apart if those of each half are, and no key occurs in both halves.
unlike_by :
    {X : Type 0} (key : X → X → Bool) (q : X → Bool) (y z : X) (zs : List X) (b c : Bool) → key z y ≡ b → q z ≡ c → (key z y ≡ true → q z ≡ q y) → q y ≡ true
    → list_all (λ x. not (key x y)) (cond c (z ∷ zs) zs) ≡ true → not b ≡ true
unlike_by key q y z zs false c is in_half same here all = refl
unlike_by key q y z zs true true is in_half same here all =
    let parts = and_parts (not (key z y)) (list_all (λ x. not (key x y)) zs) all in
    absurd cc
unlike_by key q y z zs true false is in_half same here all =
    let both : q z ≡ q y = same is in
    absurd cc

rest_by :
    {X : Type 0} (p : X → Bool) (z : X) (zs : List X) (c : Bool) → list_all p (cond c (z ∷ zs) zs) ≡ true → list_all p zs ≡ true
rest_by p z zs true all = (and_parts (p z) (list_all p zs) all).1
rest_by p z zs false all = all

unlike :
    {X : Type 0} (key : X → X → Bool) (q : X → Bool) (y : X) (zs : List X) → ((x z : X) → key x z ≡ true → q x ≡ q z) → q y ≡ true
    → list_all (λ x. not (key x y)) (filter q zs) ≡ true → list_all (λ x. not (key x y)) zs ≡ true
unlike key q y [] same here all = refl
unlike key q y (z ∷ zs) same here all =
    and_from (not (key z y)) (list_all (λ x. not (key x y)) zs)
    (unlike_by key q y z (filter q zs) (key z y) (q z) refl refl (same z y) here all)
    (unlike key q y zs same here (rest_by (λ x. not (key x y)) z (filter q zs) (q z) all))

apart_head :
    {X : Type 0} (key : X → X → Bool) (q r : X → Bool) (y : X) (ys : List X) (b c : Bool) → ((x z : X) → key x z ≡ true → q x ≡ q z)
    → ((x z : X) → key x z ≡ true → r x ≡ r z) → q y ≡ b → r y ≡ c → r y ≡ not (q y) → apart key (cond b (y ∷ filter q ys) (filter q ys)) ≡ true
    → apart key (cond c (y ∷ filter r ys) (filter r ys)) ≡ true → (apart key (filter q ys) ≡ true → apart key (filter r ys) ≡ true → apart key ys ≡ true)
    → (list_all (λ x. not (key x y)) ys && apart key ys) ≡ true
apart_head key q r y ys true true same same_too is is_too other these those later = absurd cc
apart_head key q r y ys true false same same_too is is_too other these those later =
    let parts = and_parts (list_all (λ x. not (key x y)) (filter q ys)) (apart key (filter q ys)) these in
    and_from (list_all (λ x. not (key x y)) ys) (apart key ys) (unlike key q y ys same is parts.0) (later parts.1 those)
apart_head key q r y ys false true same same_too is is_too other these those later =
    let parts = and_parts (list_all (λ x. not (key x y)) (filter r ys)) (apart key (filter r ys)) those in
    and_from (list_all (λ x. not (key x y)) ys) (apart key ys) (unlike key r y ys same_too is_too parts.0) (later these parts.1)
apart_head key q r y ys false false same same_too is is_too other these those later = absurd cc

apart_halves :
    {X : Type 0} (key : X → X → Bool) (q r : X → Bool) (xs : List X) → ((x z : X) → key x z ≡ true → q x ≡ q z)
    → ((x z : X) → key x z ≡ true → r x ≡ r z) → ((x : X) → r x ≡ not (q x)) → apart key (filter q xs) ≡ true → apart key (filter r xs) ≡ true
    → apart key xs ≡ true
apart_halves key q r [] same same_too other these those = refl
apart_halves key q r (y ∷ ys) same same_too other these those =
    apart_head key q r y ys (q y) (r y) same same_too refl refl (other y) these those (apart_halves key q r ys same same_too other)

-- the same, by dividing each half again, n times
abbrev pub apart_by : {X : Type 0} → (X → X → Bool) → (ℕ → X → Bool) → ℕ → List X → Bool
apart_by key bit zero xs = apart key xs
apart_by key bit (suc n) xs = apart_by key bit n (filter (bit n) xs) && apart_by key bit n (others (bit n) xs)

pub apart_from :
    {X : Type 0} (key : X → X → Bool) (bit : ℕ → X → Bool) (n : ℕ) (xs : List X) → ((n : ℕ) (x z : X) → key x z ≡ true → bit n x ≡ bit n z)
    → apart_by key bit n xs ≡ true → apart key xs ≡ true
apart_from key bit zero xs same h = h
apart_from {X = X} key bit (suc n) xs same h =
    let parts = and_parts (apart_by key bit n (filter (bit n) xs)) (apart_by key bit n (others (bit n) xs)) h in
    let same_too : (x z : X) → key x z ≡ true → not (bit n x) ≡ not (bit n z) = λ x z e. ap (λ b. not b) (same n x z e) in
    apart_halves key (bit n) (λ x. not (bit n x)) xs (same n) same_too (λ x. refl) (apart_from key bit n (filter (bit n) xs) same parts.0) (apart_from key bit n (others (bit n) xs) same parts.1)

-- Each element of a list has a partner in another list.
abbrev pub paired : {X Y : Type 0} → (X → Y → Bool) → List X → List Y → Bool
paired fits xs ys = list_all (λ x. list_any (fits x) ys) xs

abbrev pub paired_by : {X Y : Type 0} → (X → Y → Bool) → (ℕ → X → Bool) → (ℕ → Y → Bool) → ℕ → List X → List Y → Bool
paired_by fits bit other zero xs ys = paired fits xs ys
paired_by fits bit other (suc n) xs ys =
    paired_by fits bit other n (filter (bit n) xs) (filter (other n) ys)
    && paired_by fits bit other n (others (bit n) xs) (others (other n) ys)

pub paired_from :
    {X Y : Type 0} (fits : X → Y → Bool) (bit : ℕ → X → Bool) (other : ℕ → Y → Bool) (n : ℕ) (xs : List X) (ys : List Y)
    → paired_by fits bit other n xs ys ≡ true → paired fits xs ys ≡ true
paired_from fits bit other zero xs ys h = h
paired_from {X = X} fits bit other (suc n) xs ys h =
    let parts =
    and_parts
    (paired_by fits bit other n (filter (bit n) xs) (filter (other n) ys))
    (paired_by fits bit other n (others (bit n) xs) (others (other n) ys))
    h
    in
    let here : X → Bool = λ x. list_any (fits x) ys in
    let these = paired_from fits bit other n (filter (bit n) xs) (filter (other n) ys) parts.0 in
    let those = paired_from fits bit other n (others (bit n) xs) (others (other n) ys) parts.1 in
    all_halves here (bit n) xs
    (all_imply (λ x. list_any (fits x) (filter (other n) ys)) here (filter (bit n) xs) (λ x. any_more (fits x) (other n) ys) these)
    (all_imply (λ x. list_any (fits x) (others (other n) ys)) here (others (bit n) xs) (λ x. any_more (fits x) (λ y. not (other n y)) ys) those)
