-- Steps of the loops that make the lines of the segments of a catalog.
use Rattle.std.proofs.Common.{ℕ, ◌≡◌, ◌+◌, ◌≤◌, List, [], ◌∷◌, ◌++◌, length, drop, map, Some, refl, sym, ap, ◌∙◌, append_assoc}
use Rattle.std.specs.Prelude.{slice_get}
use Rattle.std.proofs.lemmas.List.{at_drop_more, at_drop_all, append-nil}
use Rattle.std.proofs.lemmas.Option.{slice_get_within, get_or_from_slice_get}
use Rattle.m36_dir.specs.Fields.{SegmentFields}
use Rattle.m36_dir.specs.Catalog.{CatalogFields}
use Rattle.m36_acl.specs.AccessLists.{Lists}
use Rattle.m36_acl.specs.AccessText.{access_line, denied_line, access_from, access_text, denied_lines}

-- ---- the lines in one text

pub text_start : (lists : Lists) (user : List ℕ) (catalog : CatalogFields)
    → [] ++ access_from lists user catalog.directories (drop 0 catalog.segments) ≡ access_text lists user catalog
unfolding access_text
text_start lists user catalog = refl

from_more : (lists : Lists) (user : List ℕ) (dirs : List (List ℕ)) (segments : List SegmentFields) (i : ℕ) (s : SegmentFields)
    → slice_get segments i ≡ Some s
    → access_from lists user dirs (drop i segments) ≡ access_line lists user dirs s ++ access_from lists user dirs (drop (i + 1) segments)
unfolding access_from
from_more lists user dirs segments i s at =
    at_drop_more (access_from lists user dirs) segments i s (slice_get_within segments i s at)
    ∙ ap (λ (t : SegmentFields). access_line lists user dirs t ++ access_from lists user dirs (drop (i + 1) segments)) (get_or_from_slice_get segments i s s at)

pub text_more : (lists : Lists) (user : List ℕ) (catalog : CatalogFields) (i : ℕ) (s : SegmentFields) (text line next : List ℕ)
    → slice_get catalog.segments i ≡ Some s → line ≡ access_line lists user catalog.directories s → next ≡ text ++ line
    → text ++ access_from lists user catalog.directories (drop i catalog.segments) ≡ access_text lists user catalog
    → next ++ access_from lists user catalog.directories (drop (i + 1) catalog.segments) ≡ access_text lists user catalog
text_more lists user catalog i s text line next at is grown so_far =
    let rest = access_from lists user catalog.directories (drop (i + 1) catalog.segments) in
    ap (λ (t : List ℕ). t ++ rest) grown ∙ append_assoc text line rest
    ∙ ap (λ (l : List ℕ). text ++ (l ++ rest)) is
    ∙ ap (λ (t : List ℕ). text ++ t) (sym (from_more lists user catalog.directories catalog.segments i s at)) ∙ so_far

from_none : (lists : Lists) (user : List ℕ) (dirs : List (List ℕ)) → access_from lists user dirs [] ≡ []
unfolding access_from
from_none lists user dirs = refl

pub text_done : (lists : Lists) (user : List ℕ) (catalog : CatalogFields) (i : ℕ) (text : List ℕ) → length catalog.segments ≤ i
    → text ++ access_from lists user catalog.directories (drop i catalog.segments) ≡ access_text lists user catalog
    → text ≡ access_text lists user catalog
text_done lists user catalog i text past so_far =
    let none : access_from lists user catalog.directories (drop i catalog.segments) ≡ [] =
    at_drop_all (access_from lists user catalog.directories) catalog.segments i past ∙ from_none lists user catalog.directories in
    sym (append-nil text) ∙ ap (λ (t : List ℕ). text ++ t) (sym none) ∙ so_far

pub ruleset texts = (text_start, text_more, text_done)

-- ---- the lines one by one

pub lines_start : (lists : Lists) (user : List ℕ) (catalog : CatalogFields)
    → [] ++ map (denied_line lists user catalog.directories) (drop 0 catalog.segments) ≡ denied_lines lists user catalog
unfolding denied_lines
lines_start lists user catalog = refl

pub lines_more : (lists : Lists) (user : List ℕ) (catalog : CatalogFields) (i : ℕ) (s : SegmentFields) (told next : List (List ℕ)) (line : List ℕ)
    → slice_get catalog.segments i ≡ Some s → line ≡ denied_line lists user catalog.directories s → next ≡ told ++ line ∷ []
    → told ++ map (denied_line lists user catalog.directories) (drop i catalog.segments) ≡ denied_lines lists user catalog
    → next ++ map (denied_line lists user catalog.directories) (drop (i + 1) catalog.segments) ≡ denied_lines lists user catalog
lines_more lists user catalog i s told next line at is grown so_far =
    let one = denied_line lists user catalog.directories in
    let rest = map one (drop (i + 1) catalog.segments) in
    let more : map one (drop i catalog.segments) ≡ one s ∷ rest =
    at_drop_more (map one) catalog.segments i s (slice_get_within catalog.segments i s at)
    ∙ ap (λ (t : SegmentFields). one t ∷ rest) (get_or_from_slice_get catalog.segments i s s at) in
    ap (λ (t : List (List ℕ)). t ++ rest) grown ∙ append_assoc told (line ∷ []) rest
    ∙ ap (λ (l : List ℕ). told ++ (l ∷ rest)) is
    ∙ ap (λ (t : List (List ℕ)). told ++ t) (sym more) ∙ so_far

pub lines_done : (lists : Lists) (user : List ℕ) (catalog : CatalogFields) (i : ℕ) (told : List (List ℕ)) → length catalog.segments ≤ i
    → told ++ map (denied_line lists user catalog.directories) (drop i catalog.segments) ≡ denied_lines lists user catalog
    → told ≡ denied_lines lists user catalog
lines_done lists user catalog i told past so_far =
    let one = denied_line lists user catalog.directories in
    let none : map one (drop i catalog.segments) ≡ [] = at_drop_all (map one) catalog.segments i past in
    sym (append-nil told) ∙ ap (λ (t : List (List ℕ)). told ++ t) (sym none) ∙ so_far

pub ruleset lines = (lines_start, lines_more, lines_done)
