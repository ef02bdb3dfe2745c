-- Several texts of a line, read one after the other.
use Rattle.std.proofs.Common.{◌≡◌, ℕ, ◌+◌, ◌<◌, ◌≤◌, Bool, true, false, cond, List, [], ◌∷◌, ◌++◌, length, Option, Some, None, refl, sym, ap, subst, ◌∙◌, arith, append_assoc, length-append}
use Rattle.std.specs.Prelude.{MatchOption}
use Rattle.std.proofs.Math.Dec.{ltb}
use Rattle.std.proofs.lemmas.List.{append-nil}
use Rattle.std.proofs.lemmas.Bool.{lt-ltb, le-ltb}
use Rattle.m36_image.specs.Several.{with_number, numbers_by, numbers_up_to}

-- numbers that were read, before those that are still read
abbrev pub behind : List ℕ → Option (List ℕ) → Option (List ℕ)
behind front None = None
behind front (Some numbers) = Some (front ++ numbers)

behind_more :
    (front : List ℕ) (n : ℕ) (numbers : Option (List ℕ))
    → behind front (with_number (Some n) numbers) ≡ behind (front ++ n ∷ []) numbers
behind_more front n None = refl
behind_more front n (Some numbers) = ap (λ t. Some t) (sym (append_assoc front (n ∷ []) numbers))

none_chosen : {A : Type 0} (b : Bool) (o : Option A) → o ≡ None → cond b o None ≡ None
none_chosen true o e = e
none_chosen false o e = refl

-- the state of reading the texts of a line
pub record Reading (form : List ℕ → Option ℕ) (front : List ℕ) (left all : List (List ℕ)) : Type 0 where
  pub count : length all ≡ length front + length left
  pub numbers : behind front (numbers_by form left) ≡ numbers_by form all

behind_nil : (numbers : Option (List ℕ)) → behind [] numbers ≡ numbers
behind_nil None = refl
behind_nil (Some numbers) = refl

-- at the start
pub reading_starts : (form : List ℕ → Option ℕ) (all : List (List ℕ)) → Reading form [] all all
reading_starts form all = record { count = omega arith; numbers = behind_nil (numbers_by form all) }

-- one more text was read
pub reading_more :
    (form : List ℕ → Option ℕ) (front : List ℕ) (left all : List (List ℕ)) (text : List ℕ) (texts : List (List ℕ)) (n : ℕ)
    → Reading form front left all → left ≡ text ∷ texts → form text ≡ Some n → Reading form (front ++ n ∷ []) texts all
reading_more form front left all text texts n so_far begins read = record {
  count = omega (arith, so_far.count, ap length begins, length-append front (n ∷ []));
  numbers = sym (behind_more front n (numbers_by form texts)) ∙ ap (λ o. behind front (with_number o (numbers_by form texts))) (sym read) ∙ ap (λ t. behind front (numbers_by form t)) (sym begins) ∙ so_far.numbers;
}

-- texts that do not all have the form are not one to `most` texts of the form
none_of : (most : ℕ) (form : List ℕ → Option ℕ) (all : List (List ℕ)) → numbers_by form all ≡ None → numbers_up_to most form all ≡ None
unfolding numbers_up_to
none_of most form [] e = refl
none_of most form (text ∷ texts) e = none_chosen (ltb (length texts) most) (numbers_by form (text ∷ texts)) e

none_behind : (front : List ℕ) (numbers : Option (List ℕ)) → behind front (with_number None numbers) ≡ None
none_behind front None = refl
none_behind front (Some numbers) = refl

-- a text does not have the form
pub reading_fails :
    (most : ℕ) (form : List ℕ → Option ℕ) (front : List ℕ) (left all : List (List ℕ)) (text : List ℕ) (texts : List (List ℕ))
    → Reading form front left all → left ≡ text ∷ texts → form text ≡ None → numbers_up_to most form all ≡ None
reading_fails most form front left all text texts so_far begins read =
    none_of most form all (sym so_far.numbers ∙ ap (λ t. behind front (numbers_by form t)) begins ∙ ap (λ o. behind front (with_number o (numbers_by form texts))) read ∙ none_behind front (numbers_by form texts))

few_of :
    (most : ℕ) (form : List ℕ → Option ℕ) (all : List (List ℕ))
    → 0 < length all → length all ≤ most → numbers_by form all ≡ numbers_up_to most form all
unfolding numbers_up_to
few_of most form [] some few = absurd (omega arith)
few_of most form (text ∷ texts) some few = rw (lt-ltb (length texts) most (omega arith))

many_of : (most : ℕ) (form : List ℕ → Option ℕ) (all : List (List ℕ)) → most < length all → numbers_up_to most form all ≡ None
unfolding numbers_up_to
many_of most form [] many = refl
many_of most form (text ∷ texts) many = rw (le-ltb (length texts) most (omega arith))

-- all were read
pub reading_ends :
    (most : ℕ) (form : List ℕ → Option ℕ) (front : List ℕ) (all : List (List ℕ))
    → Reading form front [] all → 0 < length front → length front ≤ most → Some front ≡ numbers_up_to most form all
reading_ends most form front all so_far some few =
    ap (λ t. Some t) (sym (append-nil front)) ∙ so_far.numbers ∙ few_of most form all (omega (arith, so_far.count)) (omega (arith, so_far.count))

-- the maximum number was read, and there is one more
pub reading_many :
    (most : ℕ) (form : List ℕ → Option ℕ) (front : List ℕ) (left all : List (List ℕ))
    → Reading form front left all → most ≤ length front → 0 < length left → numbers_up_to most form all ≡ None
reading_many most form front left all so_far many more = many_of most form all (omega (arith, so_far.count))

-- ---- given the first of the texts that are left, and the rest

pub others_of :
    {X : Type 0} (more : Option X) (others : X → List (List ℕ)) (left : List (List ℕ)) (text : List ℕ)
    → MatchOption more (left ≡ text ∷ []) (λ m. left ≡ text ∷ others m) → (texts : List (List ℕ)) × (left ≡ text ∷ texts)
others_of None others left text begins = ([], begins)
others_of (Some m) others left text begins = (others m, begins)

pub last_of :
    {X : Type 0} (more : Option X) (others : X → List (List ℕ)) (left : List (List ℕ)) (text : List ℕ)
    → MatchOption more (left ≡ text ∷ []) (λ m. left ≡ text ∷ others m) → more ≡ None → left ≡ text ∷ []
last_of more others left text begins none =
    subst (λ m. MatchOption m (left ≡ text ∷ []) (λ x. left ≡ text ∷ others x)) none begins

pub ruleset reading_several = (reading_starts, reading_more, reading_fails, reading_ends, reading_many)
