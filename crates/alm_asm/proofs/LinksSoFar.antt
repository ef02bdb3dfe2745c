-- The refusal of a line depends only on the links up to it: those of later lines change no index.
use Rattle.std.proofs.Common.{◌≡◌, ℕ, ◌+◌, ◌*◌, ◌<◌, ◌≤◌, Bool, true, false, cond, not, ◌||◌, List, [], ◌∷◌, ◌++◌, length, Option, Some, None, refl, sym, ap, ◌∙◌, arith, length-append}
use Rattle.std.specs.Prelude.{unwrap_or}
use Rattle.std.specs.List.{list_any, position, position_or_len}
use Rattle.std.proofs.lemmas.Bool.{lt-ltb}
use Rattle.alm_parse.specs.declared.deed.LineEffect.TheVariants as deed
use Rattle.alm_parse.specs.declared.line.Line36.{Line36}
use Rattle.obj36_parts.specs.Fields.{LinkFields}
use Rattle.obj36_parts.specs.Indexes.{same_link}
use Rattle.alm_lines.specs.Arguments.{first_arg}
use Rattle.alm_lines.specs.Spots.{next_line_spot}
use Rattle.alm_lines.specs.SpotFields.{LocationCounter}
use Rattle.alm_lines.specs.declared.sum.Sum.{Sum}
use Rattle.alm_asm.specs.Links.{operand_args, link_in, with_link, links_after, links_from, KeepsIndexes, offset_of_link_in}
use Rattle.alm_asm.proofs.LinksStanding.{stays_with}

-- ---- the first that passes

pub or_second : (a b : Bool) → (a || b) ≡ true → a ≡ false → b ≡ true
or_second true b e f = absurd (cc)
or_second false b e f = e

inside_by : (b : Bool) (rest count : ℕ) → (b ≡ false → rest < count) → cond (not b) (1 + rest) 0 < 1 + count
inside_by true rest count later = omega arith
inside_by false rest count later = let h = later refl in omega arith

inside : {X : Type 0} (p : X → Bool) (xs : List X) → list_any p xs ≡ true → position_or_len p xs < length xs
inside p [] e = absurd (cc)
inside p (x ∷ xs) e =
    let here = inside_by (p x) (position_or_len p xs) (length xs) (λ no. inside p xs (or_second (p x) (list_any p xs) e no)) in
    omega (arith, here)

same_by : (b : Bool) (m n : ℕ) → (b ≡ false → m ≡ n) → cond (not b) (1 + m) 0 ≡ cond (not b) (1 + n) 0
same_by true m n later = refl
same_by false m n later = ap (λ k. 1 + k) (later refl)

same_first : {X : Type 0} (p : X → Bool) (xs ys : List X) → list_any p xs ≡ true → position_or_len p (xs ++ ys) ≡ position_or_len p xs
same_first p [] ys e = absurd (cc)
same_first p (x ∷ xs) ys e =
    same_by (p x) (position_or_len p (xs ++ ys)) (position_or_len p xs) (λ no. same_first p xs ys (or_second (p x) (list_any p xs) e no))

-- Its index does not change, whatever follows.
same_position : {X : Type 0} (p : X → Bool) (xs ys : List X) → list_any p xs ≡ true → position p (xs ++ ys) ≡ position p xs
same_position p xs ys e =
    let at = inside p xs e in
    let same = same_first p xs ys e in
    let longer : position_or_len p (xs ++ ys) < length (xs ++ ys) = let n = length-append xs ys in omega (arith, at, same, n) in
    ap (λ b. cond b (Some (position_or_len p (xs ++ ys))) None) (lt-ltb (position_or_len p (xs ++ ys)) (length (xs ++ ys)) longer)
    ∙ ap Some same
    ∙ sym (ap (λ b. cond b (Some (position_or_len p xs)) None) (lt-ltb (position_or_len p xs) (length xs) at))

-- ---- the index of a link

same_by_other : (l other : LinkFields) (links : List LinkFields) (b : Bool) → list_any (same_link l) links ≡ true
    → position (same_link l) (cond b links (links ++ other ∷ [])) ≡ position (same_link l) links
same_by_other l other links true e = refl
same_by_other l other links false e = same_position (same_link l) links (other ∷ []) e

same_with : (l : LinkFields) (links : List LinkFields) (more : Option LinkFields) → list_any (same_link l) links ≡ true
    → position (same_link l) (with_link links more) ≡ position (same_link l) links
same_with l links None e = refl
same_with l links (Some other) e = same_by_other l other links (list_any (same_link other) links) e

pub same_below : (text : List ℕ) (symbols : List (List ℕ × Sum)) (l : LinkFields) (links : List LinkFields) (spot : LocationCounter) (lines : List Line36)
    → list_any (same_link l) links ≡ true → position (same_link l) (links_from text symbols links spot lines) ≡ position (same_link l) links
unfolding links_from links_after
same_below text symbols l links spot [] e = refl
same_below text symbols l links spot (line ∷ lines) e =
    let given = link_in text symbols spot (first_arg (operand_args line.deed line.args)) in
    same_below text symbols l (links_after text symbols links spot line) (next_line_spot text spot line) lines (stays_with l links given e)
    ∙ same_with l links given e

-- Links that lack none of the lines keep the indexes of those before them.
pub kept_at_end : (text : List ℕ) (symbols : List (List ℕ × Sum)) (old links : List LinkFields) (first spot : LocationCounter) (lines rest : List Line36)
    → rest ≡ [] → links_from text symbols links spot rest ≡ links_from text symbols old first lines
    → KeepsIndexes old links
unfolding links_from
kept_at_end text symbols old links first spot lines rest none whole = λ link has.
    let all : links ≡ links_from text symbols old first lines =
    sym (ap (λ (ls : List Line36). links_from text symbols links spot ls) none) ∙ whole in
    ap (position (same_link link)) all ∙ same_below text symbols link old first lines has

-- The offset of a link of the list is within the words of the links.
pub offset_within : (links : List LinkFields) (first : ℕ) (link : LinkFields) (o : ℕ) → o ≡ offset_of_link_in links first link
    → list_any (same_link link) links ≡ true → o + 2 ≤ first + 2 * length links
unfolding offset_of_link_in
offset_within links first link o e has =
    let p : LinkFields → Bool = same_link link in
    let at = inside p links has in
    let place : position p links ≡ Some (position_or_len p links) =
    ap (λ b. cond b (Some (position_or_len p links)) None) (lt-ltb (position_or_len p links) (length links) at) in
    let is : o ≡ first + 2 * position_or_len p links = e ∙ ap (λ (x : Option ℕ). first + 2 * unwrap_or x 0) place in
    omega (arith, at, is)
