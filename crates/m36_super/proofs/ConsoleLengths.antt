-- A console service writes as many characters as A says: each word has four, and those past the last are cut off.
use Rattle.std.proofs.Common.{◌≡◌, ℕ, zero, suc, ◌+◌, ◌*◌, ◌/◌, ◌≤◌, List, ◌++◌, length, Result, Ok, Err, refl, sym, subst, arith, length-append}
use Rattle.std.proofs.lemmas.List.{length-take-le}
use Rattle.std.specs.Prelude.{⊤, slice_index}
use Rattle.m36_model.specs.Registers.{RegsFields}
use Rattle.m36_model.specs.Act.{Answer}
use Rattle.m36_model.specs.Store.{examined_reply}
use Rattle.m36_model.specs.Flat.{Flat, flat_store}
use Rattle.m36_model.specs.declared.outcome.Fault.{Fault}
use Rattle.m36_super.specs.Services.{console_word_count, characters_of, console_at, with_word_before, console_words, first_characters, console_text}
use Rattle.m36_super.specs.ConsoleLaw.{ConsoleCounts}
use Rattle.m36_super.proofs.ConsoleReads.{four_characters}

-- a text that was read has this length
abbrev HasLength : ℕ → Result (List ℕ) Fault → Type 0
HasLength n (Ok text) = length text ≡ n
HasLength n (Err why) = ⊤

with_four : (word text : List ℕ) (n : ℕ) → length word ≡ 4 → length text ≡ n → length (word ++ text) ≡ 4 + n
with_four word text n four rest = let both = length-append word text in omega arith

joined_length : (n : ℕ) (a : Result Answer Fault) (rest : Result (List ℕ) Fault) → HasLength n rest → HasLength (4 + n) (with_word_before a rest)
joined_length n (Err why) rest has = tt
joined_length n (Ok a) (Err why) has = tt
joined_length n (Ok a) (Ok text) has =
    with_four (characters_of (slice_index a.words 0)) text n (four_characters (slice_index a.words 0)) has

words_length : (g : RegsFields) (f : Flat) (k n : ℕ) → HasLength (4 * n) (console_words g f k n)
unfolding console_words
words_length g f k zero = refl
words_length g f k (suc n) =
    let rest : Result (List ℕ) Fault = console_words g f (k + 1) n in
    let same : 4 + 4 * n ≡ 4 * suc n = omega arith in
    subst (λ (m : ℕ). HasLength m (with_word_before (examined_reply flat_store g f (console_at g k)) rest)) same
    (joined_length (4 * n) (examined_reply flat_store g f (console_at g k)) rest (words_length g f (k + 1) n))

cut_length : (n m : ℕ) (read : Result (List ℕ) Fault) → n ≤ m → HasLength m read → HasLength n (first_characters n read)
cut_length n m (Err why) enough has = tt
cut_length n m (Ok text) enough has =
    let size : length text ≡ m = has in
    length-take-le n text (subst (λ (k : ℕ). n ≤ k) (sym size) enough)

enough_words : (n : ℕ) → n ≤ 4 * ((n + 3) / 4)
enough_words n = omega arith

text_length : (g : RegsFields) (f : Flat) → HasLength g.a (console_text g f)
unfolding console_text
text_length g f =
    cut_length g.a (4 * console_word_count g.a) (console_words g f 0 (console_word_count g.a)) (enough_words g.a) (words_length g f 0 (console_word_count g.a))

pub console_counts : ConsoleCounts
console_counts g f text is = subst (λ (read : Result (List ℕ) Fault). HasLength g.a read) is (text_length g f)
