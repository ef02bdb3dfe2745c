-- Words of the command line, read one after the other.
use Rattle.std.proofs.Common.{◌≡◌, ℕ, ◌+◌, ◌<◌, ◌≤◌, List, [], ◌∷◌, length, drop, get_or, Option, Some, None, refl, sym, ap, ◌∙◌}
use Rattle.std.specs.Option.{option_and_then}
use Rattle.std.proofs.lemmas.List.{at_drop_more, at_drop_all}
use Rattle.m36_top.specs.Words.{with_word, with_words, complete_given}
use Rattle.m36_top.specs.declared.words.Given.{Given}

words_begin :
    (g : Given) (word : List ℕ) (words : List (List ℕ)) (o : Option Given)
    → with_word g word ≡ o → with_words g (word ∷ words) ≡ option_and_then (λ h. with_words h words) o
unfolding with_words
words_begin g word words o e = ap (λ o. option_and_then (λ h. with_words h words) o) e

words_none : (g : Given) → with_words g [] ≡ complete_given g.expects g
unfolding with_words
words_none g = refl

-- one more word was read
pub words_more :
    (words : List (List ℕ)) (i : ℕ) (g h : Given) (all : Option Given) (word : List ℕ)
    → i < length words → with_words g (drop i words) ≡ all → word ≡ get_or words i word → with_word g word ≡ Some h
    → with_words h (drop (i + 1) words) ≡ all
words_more words i g h all word inside so_far at read =
    sym (words_begin g word (drop (i + 1) words) (Some h) read) ∙ ap (λ w. with_words g (w ∷ drop (i + 1) words)) at ∙ sym (at_drop_more (with_words g) words i word inside) ∙ so_far

-- With this word the list is no command.
pub words_fail :
    (words : List (List ℕ)) (i : ℕ) (g : Given) (all : Option Given) (word : List ℕ)
    → i < length words → with_words g (drop i words) ≡ all → word ≡ get_or words i word → with_word g word ≡ None
    → all ≡ None
words_fail words i g all word inside so_far at read =
    sym so_far ∙ at_drop_more (with_words g) words i word inside ∙ ap (λ w. with_words g (w ∷ drop (i + 1) words)) (sym at) ∙ words_begin g word (drop (i + 1) words) None read

-- all words were read
pub words_end :
    (words : List (List ℕ)) (i : ℕ) (g : Given) (all : Option Given)
    → length words ≤ i → with_words g (drop i words) ≡ all → complete_given g.expects g ≡ all
words_end words i g all past so_far = sym (words_none g) ∙ sym (at_drop_all (with_words g) words i past) ∙ so_far

pub ruleset words_in_turn = (words_more, words_fail, words_end)
