-- Names are not empty, and each mode has one word.
use Rattle.std.proofs.Common.{ℕ, ◌≡◌, Bool, true, false, cond, List, [], ◌∷◌, length, ◌≤◌, Option, Some, None, codes, refl, sym, ap, subst, ◌∙◌, arith}
use Rattle.std.specs.Prelude.{nat_eq, IfSome}
use Rattle.std.specs.Option.{SomeIff}
use Rattle.std.proofs.lemmas.Bool.{eqb-true}
use Rattle.m36_text.specs.Texts.{is_name, is_file_name}
use Rattle.m36_dir.specs.declared.segment.Mode.{Mode}
use Rattle.m36_dir.specs.BootLine.{StrippedLetter, strip_letter, with_letter, mode_if_no_letters, mode_of_letters, mode_letters, letters_or_null, mode_word, no_mode, mode_of, ModesHaveWords}

-- ---- names

pub some_characters : (word : List ℕ) → is_file_name word ≡ true → 1 ≤ length word
unfolding is_file_name is_name
some_characters [] e = absurd (cc)
some_characters (c ∷ word) e = omega arith

pub name_is_some : (word : List ℕ) (o : Option (List ℕ)) (P : Type 0) → SomeIff o P word → is_file_name word ≡ true
    → IfSome o (λ name. 1 ≤ length name)
name_is_some word None P made is = tt
name_is_some word (Some name) P made is = subst (λ (n : List ℕ). 1 ≤ length n) (sym made.1) (some_characters word is)

-- ---- modes

stripped_if : (b : Bool) (c letter : ℕ) (letters : List ℕ) → (b ≡ true → c ≡ letter)
    → (let s : StrippedLetter = cond b (record { stands = true; rest = letters }) (record { stands = false; rest = c ∷ letters }) in
    c ∷ letters ≡ with_letter s.stands letter s.rest)
stripped_if true c letter letters same = ap (λ x. x ∷ letters) (same refl)
stripped_if false c letter letters same = refl

-- letters are the one that is stripped, if it stands, and the rest
stripped : (letter : ℕ) (letters : List ℕ) → letters ≡ with_letter (strip_letter letter letters).stands letter (strip_letter letter letters).rest
stripped letter [] = refl
stripped letter (c ∷ letters) = stripped_if (nat_eq c letter) c letter letters (λ e. eqb-true c letter e)

no_letters : (made mode : Mode) (rest : List ℕ) → mode_if_no_letters made rest ≡ Some mode → (rest ≡ []) × (made ≡ mode)
no_letters made mode [] e = (refl, cc)
no_letters made mode (c ∷ rest) e = absurd (cc)

letters_of_mode : (letters : List ℕ) (mode : Mode) → mode_of_letters letters ≡ Some mode → letters ≡ mode_letters mode
letters_of_mode letters mode e =
    let r : StrippedLetter = strip_letter 114 letters in
    let x : StrippedLetter = strip_letter 101 r.rest in
    let w : StrippedLetter = strip_letter 119 x.rest in
    let p : StrippedLetter = strip_letter 112 w.rest in
    let made : Mode = record { readable = r.stands; executable = x.stands; writable = w.stands; privileged = p.stands } in
    let none : (p.rest ≡ []) × (made ≡ mode) = no_letters made mode p.rest e in
    stripped 114 letters
    ∙ ap (with_letter r.stands 114) (stripped 101 r.rest)
    ∙ ap (λ (ls : List ℕ). with_letter r.stands 114 (with_letter x.stands 101 ls)) (stripped 119 x.rest)
    ∙ ap (λ (ls : List ℕ). with_letter r.stands 114 (with_letter x.stands 101 (with_letter w.stands 119 ls))) (stripped 112 w.rest)
    ∙ ap (λ (ls : List ℕ). with_letter r.stands 114 (with_letter x.stands 101 (with_letter w.stands 119 (with_letter p.stands 112 ls)))) none.0
    ∙ ap mode_letters none.1

pub letters_inverse : (word : List ℕ) (o : Option Mode) → o ≡ mode_of_letters word → 1 ≤ length word → IfSome o (λ mode. word ≡ mode_word mode)
letters_inverse [] o e some = absurd (omega arith)
letters_inverse (c ∷ word) None e some = tt
letters_inverse (c ∷ word) (Some mode) e some = ap letters_or_null (letters_of_mode (c ∷ word) mode (sym e))

IsFromWord : Mode → Type 0
IsFromWord mode = mode_of (mode_word mode) ≡ Some mode

from_word : (r x w p : Bool) → IsFromWord (record { readable = r; executable = x; writable = w; privileged = p })
unfolding IsFromWord mode_of
from_word false false false false = refl
from_word false false false true = refl
from_word false false true false = refl
from_word false false true true = refl
from_word false true false false = refl
from_word false true false true = refl
from_word false true true false = refl
from_word false true true true = refl
from_word true false false false = refl
from_word true false false true = refl
from_word true false true false = refl
from_word true false true true = refl
from_word true true false false = refl
from_word true true false true = refl
from_word true true true false = refl
from_word true true true true = refl

pub modes_have_words : ModesHaveWords
unfolding IsFromWord
modes_have_words mode = from_word mode.readable mode.executable mode.writable mode.privileged
