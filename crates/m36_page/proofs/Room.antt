-- If all frames hold pages of references, there are no more frames than references.
use Rattle.std.proofs.Common.{ℕ, suc, ◌≡◌, ◌+◌, ◌/◌, ◌<◌, ◌≤◌, Bool, true, false, cond, List, [], ◌∷◌, length, get_or, Option, Some, None, refl, sym, ap, ◌∙◌, arith}
use Rattle.std.specs.Prelude.{◌||◌, nat_eq, count_by, All}
use Rattle.std.proofs.lemmas.Bool.{eqb-true, and_parts}
use Rattle.std.proofs.lemmas.List.Sums.{sum_by-cons}
use Rattle.std.proofs.lemmas.List.Elements.{All-get_or}
use Rattle.m36_model.specs.declared.place.Reference.{Reference}
use Rattle.m36_page.specs.Fields.{PagerFields}
use Rattle.m36_page.specs.Residence.{AgreesWithCore}
use Rattle.m36_page.specs.Changes.{refers_to_page, is_pinned, AllPinned}
use Rattle.m36_page.proofs.Moves.{one_frame}

abbrev on : Reference → Option (ℕ × ℕ) → Bool
on e None = false
on e (Some h) = refers_to_page h e

abbrev one_of : Bool → ℕ
one_of b = cond b 1 0

-- ---- counts

count_cons : (p : Option (ℕ × ℕ) → Bool) (h : Option (ℕ × ℕ)) (hs : List (Option (ℕ × ℕ)))
    → count_by p (h ∷ hs) ≡ cond (p h) 1 0 + count_by p hs
count_cons p h hs = sum_by-cons (λ x. cond (p x) 1 0) h hs

either_one : (a b c : Bool) → c ≡ (a || b) → cond c 1 0 ≤ cond a 1 0 + cond b 1 0
either_one true b c e = let is : one_of c ≡ one_of true = ap one_of e in omega (arith, is)
either_one false true c e = let is : one_of c ≡ one_of true = ap one_of e in omega (arith, is)
either_one false false c e = let is : one_of c ≡ one_of false = ap one_of e in omega (arith, is)

count_either : (p q r : Option (ℕ × ℕ) → Bool) → ((h : Option (ℕ × ℕ)) → r h ≡ (p h || q h)) → (hs : List (Option (ℕ × ℕ)))
    → count_by r hs ≤ count_by p hs + count_by q hs
count_either p q r each [] = omega arith
count_either p q r each (h ∷ hs) =
    let one = either_one (p h) (q h) (r h) (each h) in
    let more = count_either p q r each hs in
    omega (arith, one, more, count_cons p h hs, count_cons q h hs, count_cons r h hs)

count_none : (p : Option (ℕ × ℕ) → Bool) (hs : List (Option (ℕ × ℕ))) → ((k : ℕ) → k < length hs → p (get_or hs k None) ≡ false)
    → count_by p hs ≡ 0
count_none p [] never = refl
count_none p (h ∷ hs) never =
    let here : one_of (p h) ≡ one_of false = ap one_of (never 0 (omega arith)) in
    let more = count_none p hs (λ k below. never (suc k) (omega arith)) in
    omega (arith, here, more, count_cons p h hs)

not_true : (b : Bool) → (b ≡ true → ⊥) → b ≡ false
not_true true never = absurd (never refl)
not_true false never = refl

count_once_by : (b : Bool) (p : Option (ℕ × ℕ) → Bool) (h : Option (ℕ × ℕ)) (hs : List (Option (ℕ × ℕ))) → p h ≡ b
    → ((i j : ℕ) → p (get_or (h ∷ hs) i None) ≡ true → p (get_or (h ∷ hs) j None) ≡ true → i ≡ j)
    → count_by p hs ≤ 1 → cond b 1 0 + count_by p hs ≤ 1
count_once_by true p h hs e once rest =
    let never : count_by p hs ≡ 0 = count_none p hs (λ k below. not_true (p (get_or hs k None)) (λ there.
    let same : 0 ≡ suc k = once 0 (suc k) e there in absurd (omega (arith, same)))) in
    omega (arith, never)
count_once_by false p h hs e once rest = omega (arith, rest)

count_once : (p : Option (ℕ × ℕ) → Bool) (hs : List (Option (ℕ × ℕ)))
    → ((i j : ℕ) → p (get_or hs i None) ≡ true → p (get_or hs j None) ≡ true → i ≡ j) → count_by p hs ≤ 1
count_once p [] once = omega arith
count_once p (h ∷ hs) once =
    let rest = count_once p hs (λ i j a b. let same : suc i ≡ suc j = once (suc i) (suc j) a b in omega (arith, same)) in
    let all = count_once_by (p h) p h hs refl once rest in
    omega (arith, all, count_cons p h hs)

count_all : (p : Option (ℕ × ℕ) → Bool) (hs : List (Option (ℕ × ℕ))) → ((k : ℕ) → k < length hs → p (get_or hs k None) ≡ true)
    → count_by p hs ≡ length hs
count_all p [] each = refl
count_all p (h ∷ hs) each =
    let here : one_of (p h) ≡ one_of true = ap one_of (each 0 (omega arith)) in
    let more = count_all p hs (λ k below. each (suc k) (omega arith)) in
    omega (arith, here, more, count_cons p h hs)

-- ---- pinned frames

pinned_cons : (e : Reference) (refs : List Reference) (h : Option (ℕ × ℕ)) → is_pinned (e ∷ refs) h ≡ (on e h || is_pinned refs h)
pinned_cons e refs None = refl
pinned_cons e refs (Some h) = refl

pinned_none : (h : Option (ℕ × ℕ)) → is_pinned [] h ≡ false
pinned_none None = refl
pinned_none (Some h) = refl

on_page : (e : Reference) (o : Option (ℕ × ℕ)) → on e o ≡ true → o ≡ Some (e.at.seg, e.at.word / 1024)
on_page e None is = absurd (cc)
on_page e (Some h) is =
    let both = and_parts (nat_eq e.at.seg h.0) (nat_eq (e.at.word / 1024) h.1) is in
    let seg : e.at.seg ≡ h.0 = eqb-true e.at.seg h.0 both.0 in
    let page : e.at.word / 1024 ≡ h.1 = eqb-true (e.at.word / 1024) h.1 both.1 in
    λ i. Some (sym seg i, sym page i)

pinned_few : (p : PagerFields) (core : List ℕ) (refs : List Reference) → AgreesWithCore p core
    → count_by (is_pinned refs) p.holders ≤ length refs
pinned_few p core [] reads =
    let never = count_none (is_pinned []) p.holders (λ k below. pinned_none (get_or p.holders k None)) in
    omega (arith, never)
pinned_few p core (e ∷ refs) reads =
    let more = pinned_few p core refs reads in
    let one = count_once (on e) p.holders (λ i j a b.
    one_frame p core i j e.at.seg (e.at.word / 1024) reads (on_page e (get_or p.holders i None) a) (on_page e (get_or p.holders j None) b)) in
    let all = count_either (on e) (is_pinned refs) (is_pinned (e ∷ refs)) (pinned_cons e refs) p.holders in
    omega (arith, more, one, all)

pub few_frames : (p : PagerFields) (core : List ℕ) (refs : List Reference) → AgreesWithCore p core → AllPinned p refs → length p.holders ≤ length refs
few_frames p core refs reads all =
    let few = pinned_few p core refs reads in
    let each = count_all (is_pinned refs) p.holders (λ k below. All-get_or (λ h. is_pinned refs h ≡ true) p.holders k None below all) in
    omega (arith, few, each)
