-- Parts of a text by their bounds.
use Rattle.std.proofs.Common.{◌≡◌, ℕ, ◌-◌, ◌≤◌, List, [], length, take, drop, refl, sym, arith}
use Rattle.std.proofs.lemmas.List.{take_rest, take_all}
use Rattle.std.proofs.Math.ListN.{drop_of_length-le}
use Rattle.alm_tokens.specs.declared.span.Span.{Span}
use Rattle.alm_tokens.specs.Tokens.{slice_of}

-- a slice longer than its count is cut
pub slice_cut :
    (text : List ℕ) (span : Span) (count : ℕ) → count ≡ span.to - span.from
    → take count (take (length text - span.from) (drop span.from text)) ≡ slice_of text span
unfolding slice_of
slice_cut text span count e = rw (take_rest text span.from, e) refl

-- a slice that is not longer stays whole
pub slice_whole :
    (text : List ℕ) (span : Span) (count : ℕ) → count ≡ span.to - span.from
    → length (take (length text - span.from) (drop span.from text)) ≤ count
    → take (length text - span.from) (drop span.from text) ≡ slice_of text span
unfolding slice_of
slice_whole text span count e short =
    let short' : length (drop span.from text) ≤ span.to - span.from = rw (← e) (rw (take_rest text span.from) at short) in
    rw (take_rest text span.from) (sym (take_all (span.to - span.from) (drop span.from text) short'))

-- after the text there is nothing
take_none : (n : ℕ) (bytes : List ℕ) → bytes ≡ [] → take n bytes ≡ []
take_none n bytes e = rw e (take_all n [] (omega arith))

pub slice_none : (text : List ℕ) (span : Span) → length text ≤ span.from → [] ≡ slice_of text span
unfolding slice_of
slice_none text span past = sym (take_none (span.to - span.from) (drop span.from text) (drop_of_length-le text past))

pub ruleset slices = (slice_cut, slice_whole, slice_none)
