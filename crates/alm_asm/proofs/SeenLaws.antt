-- The values of a line do not change: the links of later lines change no index.
use Rattle.std.proofs.Common.{rules, take, drop, ◌-◌, ◌≡◌, ℕ, ◌+◌, ◌<◌, Bool, true, false, cond, not, ◌||◌, List, [], ◌∷◌, ◌++◌, length, Option, Some, None, refl, sym, ap, ◌∙◌, arith, append_assoc, subst}
use Rattle.std.specs.Prelude.{unwrap_or, nat_lt, if◌then◌else◌}
use Rattle.std.proofs.lemmas.Bool.{ltb-true}
use Rattle.std.proofs.lemmas.List.{append-nil}
use Rattle.std.proofs.lemmas.Grind.{common_steps}
use Rattle.std.specs.List.{list_any, position, position_or_len}
use Rattle.alm_tokens.specs.declared.span.Span.{Span}
use Rattle.alm_tokens.specs.declared.expression.Term.{Term}
use Rattle.alm_parse.specs.declared.args.Arg.{Arg}
use Rattle.alm_parse.specs.declared.deed.LineEffect.{LineEffect}
use Rattle.alm_parse.specs.declared.deed.LineEffect.TheVariants as deed
use Rattle.alm_parse.specs.declared.line.Line36.{Line36}
use Rattle.obj36_parts.specs.Fields.{LinkFields}
use Rattle.obj36_parts.specs.ObjectSegment.{link_offset}
use Rattle.obj36_parts.specs.Indexes.{same_link, has_link}
use Rattle.alm_lines.specs.Arguments.{first_arg, terms_in}
use Rattle.alm_lines.specs.Spots.{next_line_spot}
use Rattle.alm_lines.specs.SpotFields.{LocationCounter}
use Rattle.alm_lines.specs.Sums.{zero_sum}
use Rattle.alm_lines.specs.Values.{has_value, value_of_sum, value_of_expression}
use Rattle.alm_lines.proofs.ValueLaws.{no_terms}
use Rattle.alm_lines.specs.declared.sum.Sum.{Sum}
use Rattle.alm_lines.specs.declared.refusal.ValueField.TheVariants.{Half}
use Rattle.alm_asm.specs.Links.{link_of, operand_args, link_of_parts, link_in, with_link, links_after, links_from, offset_of_link_in}
use Rattle.alm_asm.specs.LineValues.{index_in_links, is_below, values_of_line, with_values_before, with_values, values_from, AreFirst}
use Rattle.alm_asm.specs.declared.seen.LineValues.{LineValues}
use Rattle.alm_asm.specs.declared.growth.Growth.{Growth}
use Rattle.alm_asm.specs.Growth.{growth_after_line, with_definitions}
use Rattle.alm_asm.specs.Definitions.{defines_entries}
use Rattle.alm_asm.proofs.LinksStanding.{added_with}
use Rattle.alm_asm.proofs.LinksSoFar.{same_below}
use Rattle.alm_asm.proofs.Grown.{line_links, definitions_follow}

-- ---- indexes

place_stays : (text : List ℕ) (symbols : List (List ℕ × Sum)) (links : List LinkFields) (spot : LocationCounter) (line : Line36) (lines : List Line36) (given : Option LinkFields)
    → link_in text symbols spot (first_arg (operand_args line.deed line.args)) ≡ given
    → index_in_links (links_after text symbols links spot line) given ≡ index_in_links (links_from text symbols links spot (line ∷ lines)) given
unfolding links_from links_after
place_stays text symbols links spot line lines None e = refl
place_stays text symbols links spot line lines (Some l) e =
    sym (same_below text symbols l (links_after text symbols links spot line) (next_line_spot text spot line) lines
    (added_with l links (link_in text symbols spot (first_arg (operand_args line.deed line.args))) e))

pub seen_is : (text : List ℕ) (symbols : List (List ℕ × Sum)) (links later whole : List LinkFields) (spot : LocationCounter) (line : Line36) (lines : List Line36) (seen : LineValues)
    → links_from text symbols links spot (line ∷ lines) ≡ whole
    → later ≡ links_after text symbols links spot line
    → seen.value ≡ value_of_expression text symbols spot (terms_in (first_arg line.args))
    → seen.place ≡ index_in_links later (link_in text symbols spot (first_arg (operand_args line.deed line.args)))
    → seen ≡ values_of_line text symbols whole spot line
unfolding values_of_line
seen_is text symbols links later whole spot line lines seen all after value place =
    let given = link_in text symbols spot (first_arg (operand_args line.deed line.args)) in
    let at : seen.place ≡ index_in_links whole given =
    place ∙ ap (λ (x : List LinkFields). index_in_links x given) after ∙ place_stays text symbols links spot line lines given refl
    ∙ ap (λ (x : List LinkFields). index_in_links x given) all in
    λ i. record { value = value i; place = at i }

-- with one more line
more_by : (arguments : List Arg) (before : List LineValues) (seen : LineValues) (later : List LineValues) → with_values before arguments seen ++ later ≡ before ++ with_values_before arguments seen later
unfolding with_values_before with_values
more_by [] before seen later = refl
more_by (argument ∷ arguments) before seen later = append_assoc before (seen ∷ []) later

pub seen_more : (text : List ℕ) (symbols : List (List ℕ × Sum)) (links later whole : List LinkFields) (spot : LocationCounter) (line : Line36) (lines : List Line36) (before : List LineValues) (seen : LineValues) (all after_it : List LineValues)
    → links_from text symbols links spot (line ∷ lines) ≡ whole
    → later ≡ links_after text symbols links spot line
    → seen.value ≡ value_of_expression text symbols spot (terms_in (first_arg line.args))
    → seen.place ≡ index_in_links later (link_in text symbols spot (first_arg (operand_args line.deed line.args)))
    → before ++ values_from text symbols whole spot (line ∷ lines) ≡ all
    → after_it ≡ with_values before line.args seen
    → after_it ++ values_from text symbols whole (next_line_spot text spot line) lines ≡ all
unfolding values_from
seen_more text symbols links later whole spot line lines before seen all after_it completes after value place so is =
    let rest = values_from text symbols whole (next_line_spot text spot line) lines in
    ap (λ (x : List LineValues). x ++ rest) is
    ∙ more_by line.args before seen rest
    ∙ ap (λ (x : LineValues). before ++ with_values_before line.args x rest)
    (seen_is text symbols links later whole spot line lines seen completes after value place)
    ∙ so

pub links_more : (text : List ℕ) (symbols : List (List ℕ × Sum)) (links later whole : List LinkFields) (spot : LocationCounter) (line : Line36) (lines : List Line36)
    → links_from text symbols links spot (line ∷ lines) ≡ whole
    → later ≡ links_after text symbols links spot line
    → links_from text symbols later (next_line_spot text spot line) lines ≡ whole
unfolding links_from
links_more text symbols links later whole spot line lines all after =
    ap (λ (x : List LinkFields). links_from text symbols x (next_line_spot text spot line) lines) after ∙ all

-- ---- a line without arguments

nothing_given : (text : List ℕ) (symbols : List (List ℕ × Sum)) (spot : LocationCounter) (d : LineEffect) → link_in text symbols spot (first_arg (operand_args d [])) ≡ None
nothing_given text symbols spot deed.Nothing = refl
nothing_given text symbols spot (deed.Instruction code bit27) = refl
nothing_given text symbols spot deed.Entry = refl
nothing_given text symbols spot deed.Segdef = refl
nothing_given text symbols spot deed.Equ = refl
nothing_given text symbols spot deed.Use = refl
nothing_given text symbols spot deed.Words = refl
nothing_given text symbols spot deed.Zero = refl
nothing_given text symbols spot deed.Block = refl
nothing_given text symbols spot deed.Even = refl
nothing_given text symbols spot deed.Bound = refl

pub none_seen : (text : List ℕ) (symbols : List (List ℕ × Sum)) (links : List LinkFields) (spot : LocationCounter) (line : Line36) → line.args ≡ []
    → None ≡ index_in_links links (link_in text symbols spot (first_arg (operand_args line.deed line.args)))
none_seen text symbols links spot line e =
    sym (ap (λ (xs : List Arg). index_in_links links (link_in text symbols spot (first_arg (operand_args line.deed xs)))) e
    ∙ ap (index_in_links links) (nothing_given text symbols spot line.deed))

pub none_valued : (text : List ℕ) (symbols : List (List ℕ × Sum)) (spot : LocationCounter) (line : Line36) → line.args ≡ []
    → value_of_sum zero_sum None ≡ value_of_expression text symbols spot (terms_in (first_arg line.args))
none_valued text symbols spot line e =
    sym (ap (λ (xs : List Arg). value_of_expression text symbols spot (terms_in (first_arg xs))) e ∙ no_terms text symbols spot)

pub none_with : (arguments : List Arg) (seen : LineValues) (later : List LineValues) → arguments ≡ [] → with_values_before arguments seen later ≡ later
unfolding with_values_before
none_with arguments seen later e = ap (λ (xs : List Arg). with_values_before xs seen later) e

pub some_with : (arguments : List Arg) (seen : LineValues) (later : List LineValues) → 0 < length arguments → with_values_before arguments seen later ≡ seen ∷ later
unfolding with_values_before
some_with [] seen later some = absurd (omega (arith, some))
some_with (argument ∷ arguments) seen later some = refl

-- ---- a link by its index

pub by_place : (text : List ℕ) (symbols : List (List ℕ × Sum)) (spot : LocationCounter) (segment : Span) (entry : Option Span) (terms : List Term) (tag first : ℕ) (links : List LinkFields) (place : Option ℕ)
    → has_value text symbols spot terms Half false ≡ true
    → place ≡ index_in_links links (link_of_parts text symbols spot (Some segment) entry terms tag)
    → offset_of_link_in links first (link_of text symbols spot segment entry terms tag) ≡ link_offset first (unwrap_or place 0)
unfolding offset_of_link_in
by_place text symbols spot segment entry terms tag first links place valued e =
    let link = link_of text symbols spot segment entry terms tag in
    let at : place ≡ index_in_links links (Some link) = e ∙ ap (λ (b : Bool). index_in_links links (if b then Some link else None)) valued in
    ap (λ (p : Option ℕ). link_offset first (unwrap_or p 0)) (sym at)

pub linked_at : (text : List ℕ) (symbols : List (List ℕ × Sum)) (spot : LocationCounter) (segment : Span) (entry : Option Span) (terms : List Term) (tag : ℕ) (links : List LinkFields) (place : Option ℕ)
    → has_value text symbols spot terms Half false ≡ true
    → place ≡ index_in_links links (link_of_parts text symbols spot (Some segment) entry terms tag)
    → position (same_link (link_of text symbols spot segment entry terms tag)) links ≡ place
linked_at text symbols spot segment entry terms tag links place valued e =
    let link = link_of text symbols spot segment entry terms tag in
    sym (e ∙ ap (λ (b : Bool). index_in_links links (if b then Some link else None)) valued)

-- ---- the first links

among_by : (b other : Bool) (rest count : ℕ) → (rest < count → other ≡ true) → cond (not b) (1 + rest) 0 < 1 + count → (b || other) ≡ true
among_by true other rest count later h = refl
among_by false other rest count later h = later (omega (arith, h))

among : (p : LinkFields → Bool) (xs ys : List LinkFields) → position_or_len p (xs ++ ys) < length xs → list_any p xs ≡ true
among p [] ys h = absurd (omega (arith, h))
among p (x ∷ xs) ys h =
    let here : cond (not (p x)) (1 + position_or_len p (xs ++ ys)) 0 < 1 + length xs = omega (arith, h) in
    among_by (p x) (list_any p xs) (position_or_len p (xs ++ ys)) (length xs) (λ lower. among p xs ys lower) here

is_place : (b : Bool) (n place : ℕ) → cond b (Some n) None ≡ Some place → n ≡ place
is_place true n place e = cc
is_place false n place e = absurd (cc)

first_append : (some more : List LinkFields) → AreFirst some (some ++ more)
first_append some more =
    record {
      each = λ l place at lower.
          let n = position_or_len (same_link l) (some ++ more) in
          let same : n ≡ place = is_place (nat_lt n (length (some ++ more))) n place at in
          among (same_link l) some more (omega (arith, same, lower));
    }

appended_if : (links : List LinkFields) (link : LinkFields) (b : Bool) → (more : List LinkFields) × (cond b links (links ++ link ∷ []) ≡ links ++ more)
appended_if links link true = ([], sym (append-nil links))
appended_if links link false = (link ∷ [], refl)

appended_by : (links : List LinkFields) (given : Option LinkFields) → (more : List LinkFields) × (with_link links given ≡ links ++ more)
appended_by links None = ([], sym (append-nil links))
appended_by links (Some link) = appended_if links link (list_any (same_link link) links)

-- the links of lines are added after those so far
appended : (text : List ℕ) (symbols : List (List ℕ × Sum)) (links : List LinkFields) (spot : LocationCounter) (lines : List Line36)
    → (more : List LinkFields) × (links_from text symbols links spot lines ≡ links ++ more)
unfolding links_from links_after
appended text symbols links spot [] = ([], sym (append-nil links))
appended text symbols links spot (line ∷ lines) =
    let given = link_in text symbols spot (first_arg (operand_args line.deed line.args)) in
    let here = appended_by links given in
    let next_line_spot = appended text symbols (links_after text symbols links spot line) (next_line_spot text spot line) lines in
    (here.0 ++ next_line_spot.0, next_line_spot.1 ∙ ap (λ (x : List LinkFields). x ++ next_line_spot.0) here.1 ∙ append_assoc links here.0 next_line_spot.0)

pub first_links : (text : List ℕ) (symbols : List (List ℕ × Sum)) (links all : List LinkFields) (spot : LocationCounter) (lines : List Line36)
    → links_from text symbols links spot lines ≡ all → AreFirst links all
first_links text symbols links all spot lines e =
    let so = appended text symbols links spot lines in
    subst (AreFirst links) (sym so.1 ∙ e) (first_append links so.0)

-- a link whose index is below the length of `some` is in `some`
pub noted_is : (text : List ℕ) (symbols : List (List ℕ × Sum)) (spot : LocationCounter) (segment : Span) (entry : Option Span) (terms : List Term) (tag : ℕ) (some all : List LinkFields) (place : Option ℕ)
    → AreFirst some all → has_value text symbols spot terms Half false ≡ true
    → place ≡ index_in_links all (link_of_parts text symbols spot (Some segment) entry terms tag)
    → is_below place (length some) ≡ true
    → has_link (link_of text symbols spot segment entry terms tag) some ≡ true
noted_is text symbols spot segment entry terms tag some all None first valued e h = absurd (cc)
noted_is text symbols spot segment entry terms tag some all (Some place) first valued e h =
    first.each (link_of text symbols spot segment entry terms tag) place
    (linked_at text symbols spot segment entry terms tag all (Some place) valued e) (ltb-true place (length some) h)

-- definitions add no link
pub first_kept : (text : List ℕ) (symbols : List (List ℕ × Sum)) (line : Line36) (g h : Growth) (all : List LinkFields)
    → AreFirst g.links all → h ≡ with_definitions text symbols line g (defines_entries line.deed) → AreFirst h.links all
first_kept text symbols line g h all first is =
    subst (λ (links : List LinkFields). AreFirst links all)
    (sym (ap (λ (x : Growth). x.links) is ∙ (definitions_follow text symbols line g (defines_entries line.deed)).links)) first

-- the links that are counted
pub grown_links : (text : List ℕ) (symbols : List (List ℕ × Sum)) (g h : Growth) (all : List LinkFields) (spot : LocationCounter) (line : Line36) (lines : List Line36)
    → links_from text symbols g.links spot (line ∷ lines) ≡ all
    → h ≡ growth_after_line text symbols spot g line
    → links_from text symbols h.links (next_line_spot text spot line) lines ≡ all
grown_links text symbols g h all spot line lines e is =
    links_more text symbols g.links h.links all spot line lines e (ap (λ (x : Growth). x.links) is ∙ line_links text symbols spot g line)

pub ruleset none_next = (none_seen, none_valued, none_with)

-- the list after its first item
pub rest_of : {A : Type 0} (xs rest : List A) (x : A) → xs ≡ x ∷ rest → take (length xs - 1) (drop 1 xs) ≡ rest
rest_of xs rest x e = first_of (search rules, grind (arith, common_steps))
