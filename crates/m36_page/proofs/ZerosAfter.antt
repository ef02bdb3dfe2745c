-- Words that are zero after the last one that is written.
use Rattle.std.proofs.Common.{ℕ, ◌≡◌, ◌+◌, ◌-◌, ◌≤◌, List, length, get_or, sym, ap, ◌∙◌, arith}
use Rattle.std.proofs.lemmas.List.{length-append}
use Rattle.m36_word.proofs.ZerosAfter.{zeros, length-zeros, filled, length-filled, get_or-filled}
use Rattle.m36_page.specs.Copied.{IsCopied}

-- a page that is copied to the written words
pub copied-filled : (core words more new : List ℕ) (from at n count : ℕ) → length words ≤ count → n ≤ count → more ≡ filled words n
    → IsCopied core from more at new → IsCopied core from (filled words count) at (filled new count)
copied-filled core words more new from at n count le most is copied =
    let all = length-append words (zeros (n - length words)) in
    let size-zeros = length-zeros (n - length words) in
    let long : length more ≡ length (filled words n) = ap length is in
    let size = copied.size in
    let short : length new ≤ count = omega (arith, size, long, all, size-zeros, le, most) in
    record {
      size = length-filled new count short ∙ sym (length-filled words count le);
      inside = λ i small. get_or-filled new count (at + i) ∙ copied.inside i small;
      outside = λ a out.
          get_or-filled new count a ∙ copied.outside a out ∙ ap (λ l. get_or l a 0) is ∙ get_or-filled words n a ∙ sym (get_or-filled words count a);
    }

-- a page that is copied from the written words
pub given-filled : (words old new : List ℕ) (from at count : ℕ) → IsCopied words from old at new → IsCopied (filled words count) from old at new
given-filled words old new from at count copied = record {
  size = copied.size;
  inside = λ i small. copied.inside i small ∙ sym (get_or-filled words count (from + i));
  outside = copied.outside;
}
