-- The size of the definition section counts the definitions of lines that are not refused, the
-- links and their names.
use Rattle.std.proofs.Common.{◌≡◌, ℕ, ◌+◌, ◌*◌, ◌≤◌, Bool, true, false, cond, List, [], ◌∷◌, ◌++◌, length, Option, Some, None, is_some, refl, sym, ap, ◌∙◌, subst, true≢false, arith, length-append}
use Rattle.std.specs.List.{list_any}
use Rattle.std.proofs.lemmas.Bool.{or_left, or_right}
use Rattle.std.proofs.lemmas.List.{append-nil}
use Rattle.std.proofs.lemmas.List.Folds.{list_any-append}
use Rattle.alm_tokens.specs.declared.span.Span.{Span}
use Rattle.alm_parse.specs.declared.args.Arg.{Arg}
use Rattle.alm_parse.specs.declared.args.Arg.TheVariants as arg
use Rattle.alm_parse.specs.declared.line.Line36.{Line36}
use Rattle.obj36_parts.specs.Fields.{LinkFields}
use Rattle.obj36_parts.specs.declared.definition.Named.{Named}
use Rattle.obj36_parts.specs.Names.{same, names_in, name_size}
use Rattle.obj36_parts.specs.Names.{with_names as uses_of}
use Rattle.obj36_parts.specs.Indexes.{same_link}
use Rattle.obj36_parts.specs.ObjectSegment.{definition_names, link_names, all_link_names, are_distinct, definition_head_words}
use Rattle.obj36_parts.specs.Sizes.{distinct_names_size}
use Rattle.obj36_parts.proofs.SizeLaws.{same_is, same_self, any_among, definition_names-append, all_link_names-append}
use Rattle.obj36_parts.proofs.IndexLaws.{names_in_last, looked}
use Rattle.alm_lines.specs.Sums.{zero_sum}
use Rattle.alm_lines.specs.Symbols.{sum_named, with_symbol}
use Rattle.alm_lines.specs.Arguments.{name_at, first_arg}
use Rattle.alm_lines.specs.Spots.{next_line_spot}
use Rattle.alm_lines.specs.SpotFields.{LocationCounter}
use Rattle.alm_lines.specs.Refusals.{earlier_refusal}
use Rattle.alm_lines.specs.declared.sum.Sum.{Sum}
use Rattle.alm_lines.specs.declared.refusal.AlmRefusal.{AlmRefusal}
use Rattle.alm_asm.specs.Links.{operand_args, link_in, links_from}
use Rattle.alm_asm.specs.Definitions.{definition_of_name, definition_of_arg, defines_entries, definitions_if_any, definitions_after, definitions_from, is_defined_name, sum_refusal, redefined_refusal, name_refusal, arg_refusal, names_refusal, definitions_refusal}
use Rattle.alm_asm.specs.Definitions.{with_names as definitions_with}
use Rattle.alm_asm.specs.LineRefusals.{lines_refusal}
use Rattle.alm_asm.specs.Growth.{first_growth, with_name, with_names, with_definition, with_definition_unless_refused, with_arg, with_args, with_definitions, with_new_link, with_link_once, with_link_if_any, line_relocation_count, with_relocations, growth_after_line}
use Rattle.alm_asm.specs.declared.growth.Growth.{Growth}
use Rattle.alm_asm.specs.declared.tables.Tables.{Tables}
use Rattle.alm_asm.proofs.Unrefused.{sooner_none, names_first, line_parts, head_line, other_lines}
use Rattle.alm_asm.proofs.NamesCounted.{IsIn, AreIn, total, total_last, total_words, total_within, uses_distinct}
use Rattle.alm_asm.proofs.LinksSoFar.{or_second}
use Rattle.alm_asm.proofs.Grown.{growth_from, links_grown, definition_follows, names_follow}

-- ---- symbols as names

abbrev one : List ℕ → ℕ
one name = 1

-- A name that is found is in the list, and one that is not is added at the end.
last_by : (symbols : List (List ℕ × Sum)) (name : List ℕ) (b : Bool) → is_some (sum_named name symbols) ≡ b
    → names_in (with_symbol symbols name zero_sum) ≡ cond b (names_in symbols) (names_in symbols ++ name ∷ [])
unfolding with_symbol
last_by symbols name true e = ap (λ c. names_in (cond c symbols (symbols ++ (name, zero_sum) ∷ []))) e
last_by symbols name false e = ap (λ c. names_in (cond c symbols (symbols ++ (name, zero_sum) ∷ []))) e ∙ names_in_last symbols name zero_sum

tables_and_values : (symbols : List (List ℕ × Sum)) (name : List ℕ) → is_some (sum_named name symbols) ≡ true → IsIn name (names_in symbols)
unfolding sum_named
tables_and_values symbols name e = sym (looked name symbols) ∙ e

in_front : (other : List ℕ) (names more : List (List ℕ)) → IsIn other names → IsIn other (names ++ more)
in_front other names more h = list_any-append (same other) names more ∙ or_left (list_any (same other) names) (list_any (same other) more) h

in_back : (other : List ℕ) (names more : List (List ℕ)) → IsIn other more → IsIn other (names ++ more)
in_back other names more h = list_any-append (same other) names more ∙ or_right (list_any (same other) names) (list_any (same other) more) h

at_end : (names : List (List ℕ)) (name : List ℕ) → IsIn name (names ++ name ∷ [])
at_end names name = in_back name names (name ∷ []) (or_left (same name name) false (same_self name))

still_by : (symbols : List (List ℕ × Sum)) (name : List ℕ) (b : Bool) → is_some (sum_named name symbols) ≡ b → AreIn (names_in symbols) (names_in (with_symbol symbols name zero_sum))
still_by symbols name true e other h = ap (λ (names : List (List ℕ)). list_any (same other) names) (last_by symbols name true e) ∙ h
still_by symbols name false e other h =
    ap (λ (names : List (List ℕ)). list_any (same other) names) (last_by symbols name false e) ∙ in_front other (names_in symbols) (name ∷ []) h

there_by : (symbols : List (List ℕ × Sum)) (name : List ℕ) (b : Bool) → is_some (sum_named name symbols) ≡ b → IsIn name (names_in (with_symbol symbols name zero_sum))
there_by symbols name true e = ap (λ (names : List (List ℕ)). list_any (same name) names) (last_by symbols name true e) ∙ tables_and_values symbols name e
there_by symbols name false e = ap (λ (names : List (List ℕ)). list_any (same name) names) (last_by symbols name false e) ∙ at_end (names_in symbols) name

more_by : (f : List ℕ → ℕ) (symbols : List (List ℕ × Sum)) (name : List ℕ) → is_some (sum_named name symbols) ≡ false
    → total f (names_in (with_symbol symbols name zero_sum)) ≡ total f (names_in symbols) + f name
more_by f symbols name e = ap (λ (names : List (List ℕ)). total f names) (last_by symbols name false e) ∙ total_last f (names_in symbols) name

-- ---- the size of the section

words_of : Growth → ℕ
words_of g = definition_head_words + 2 * total one (names_in g.defined) + 2 * length g.links + total name_size (names_in g.names)

-- The number of words goes on as before, and names are not removed.
record Extends (g h : Growth) : Type 0 where
  words : g.definition ≡ words_of g → h.definition ≡ words_of h
  defined : AreIn (names_in g.defined) (names_in h.defined)
  names : AreIn (names_in g.names) (names_in h.names)
  both : AreIn (names_in g.defined) (names_in g.names) → AreIn (names_in h.defined) (names_in h.names)

stays : (g : Growth) → Extends g g
stays g = record { words = λ e. e; defined = λ name h. h; names = λ name h. h; both = λ within. within }

onward : (g h k : Growth) → Extends g h → Extends h k → Extends g k
onward g h k a b = record {
  words = λ e. b.words (a.words e);
  defined = λ name e. b.defined name (a.defined name e);
  names = λ name e. b.names name (a.names name e);
  both = λ within. b.both (a.both within);
}

-- with a name
record Names (name : List ℕ) (g h : Growth) : Type 0 where
  extends : Extends g h
  there : IsIn name (names_in h.names)

name_by : (g : Growth) (name : List ℕ) (b : Bool) → is_some (sum_named name g.names) ≡ b
    → Names name g (cond b g (record g { names = with_symbol g.names name zero_sum; definition = g.definition + name_size name }))
unfolding words_of
name_by g name true e = record { extends = stays g; there = tables_and_values g.names name e }
name_by g name false e = record {
  extends = record {
    words = λ was. (let more = more_by name_size g.names name e in omega arith);
    defined = λ other h. h;
    names = still_by g.names name false e;
    both = λ within other h. still_by g.names name false e other (within other h);
  };
  there = there_by g.names name false e;
}

name_names : (g : Growth) (name : List ℕ) → Names name g (with_name g name)
unfolding with_name
name_names g name = name_by g name (is_some (sum_named name g.names)) refl

-- all names of two lists
both_in : (names more all : List (List ℕ)) → AreIn names all → AreIn more all → AreIn (names ++ more) all
both_in names more all first second name h = by (list_any (same name) names) refl
  where
    by : (b : Bool) → list_any (same name) names ≡ b → IsIn name all
    by true e = first name e
    by false e = second name (or_second (list_any (same name) names) (list_any (same name) more) (sym (list_any-append (same name) names more) ∙ h) e)

none_in : (all : List (List ℕ)) → AreIn [] all
none_in all name h = absurd (true≢false (sym h))

-- with names
record AllNames (names : List (List ℕ)) (g h : Growth) : Type 0 where
  extends : Extends g h
  there : AreIn names (names_in h.names)

one_or_others : (first : List ℕ) (names all : List (List ℕ)) → IsIn first all → AreIn names all → AreIn (first ∷ names) all
one_or_others first names all here others name h = by (same name first) refl
  where
    by : (b : Bool) → same name first ≡ b → IsIn name all
    by true e = ap (λ (n : List ℕ). list_any (same n) all) (same_is name first e) ∙ here
    by false e = others name (or_second (same name first) (list_any (same name) names) h e)

all_names : (g : Growth) (names : List (List ℕ)) → AllNames names g (with_names g names)
unfolding with_names
all_names g [] = record { extends = stays g; there = none_in (names_in g.names) }
all_names g (name ∷ names) =
    let first = name_names g name in
    let others = all_names (with_name g name) names in
    record {
      extends = onward g (with_name g name) (with_names (with_name g name) names) first.extends others.extends;
      there = one_or_others name names (names_in (with_names (with_name g name) names).names) (others.extends.names name first.there) others.there;
    }

-- ---- a definition

record Definition (name : List ℕ) (g h : Growth) : Type 0 where
  extends : Extends g h
  there : IsIn name (names_in h.defined)

kept_by : (b : Bool) (g h : Growth) → h.defined ≡ g.defined → (cond b g h).defined ≡ g.defined
kept_by true g h e = refl
kept_by false g h e = e

name_keeps : (g : Growth) (name : List ℕ) → (with_name g name).defined ≡ g.defined
unfolding with_name
name_keeps g name =
    kept_by (is_some (sum_named name g.names)) g (record g { names = with_symbol g.names name zero_sum; definition = g.definition + name_size name }) refl

definition_by : (g : Growth) (name : List ℕ) (b : Bool) → is_some (sum_named name g.defined) ≡ b
    → Definition name g (cond b g (with_name (record g { defined = with_symbol g.defined name zero_sum; definition = g.definition + 2 }) name))
unfolding words_of
definition_by g name true e = record { extends = stays g; there = tables_and_values g.defined name e }
definition_by g name false e =
    let defined = record g { defined = with_symbol g.defined name zero_sum; definition = g.definition + 2 } in
    let after = with_name defined name in
    let step = name_names defined name in
    let kept = name_keeps defined name in
    record {
      extends = record {
        words = λ was. step.extends.words (let more = more_by one g.defined name e in omega arith);
        defined = λ other h. step.extends.defined other (still_by g.defined name false e other h);
        names = λ other h. step.extends.names other h;
        both = λ within other h.
            both_in (names_in g.defined) (name ∷ []) (names_in after.names) (λ n i. step.extends.names n (within n i))
            (one_or_others name [] (names_in after.names) step.there (none_in (names_in after.names))) other
            (ap (λ (names : List (List ℕ)). list_any (same other) names) (sym (last_by g.defined name false e))
            ∙ ap (λ (s : List (List ℕ × Sum)). list_any (same other) (names_in s)) (sym kept) ∙ h);
      };
      there = step.extends.defined name (there_by g.defined name false e);
    }

a_definition : (g : Growth) (name : List ℕ) → Definition name g (with_definition g name)
unfolding with_definition
a_definition g name = definition_by g name (is_some (sum_named name g.defined)) refl

-- ---- the invariant of the definitions so far

-- The size is that of the names and links. The definitions are among those counted, and the names
-- of both among the names.
record Holds (ds : List Named) (g : Growth) : Type 0 where
  words : g.definition ≡ words_of g
  defined : AreIn (definition_names ds) (names_in g.defined)
  both : AreIn (names_in g.defined) (names_in g.names)
  linked : AreIn (all_link_names g.links) (names_in g.names)

hold_definition : (ds : List Named) (d : Named) (g h : Growth) → Definition d.name g h → h.links ≡ g.links → Holds ds g → Holds (ds ++ d ∷ []) h
unfolding definition_names
hold_definition ds d g h step links at = record {
  words = step.extends.words at.words;
  defined = λ other e.
      both_in (definition_names ds) (d.name ∷ []) (names_in h.defined) (λ n i. step.extends.defined n (at.defined n i))
      (one_or_others d.name [] (names_in h.defined) step.there (none_in (names_in h.defined))) other
      (ap (λ (names : List (List ℕ)). list_any (same other) names) (sym (definition_names-append ds (d ∷ []))) ∙ e);
  both = step.extends.both at.both;
  linked = λ other e. step.extends.names other (at.linked other (ap (λ (l : List LinkFields). list_any (same other) (all_link_names l)) (sym links) ∙ e));
}

hold_nothing : (ds : List Named) (g : Growth) → Holds ds g → Holds (ds ++ []) g
hold_nothing ds g at = subst (λ (l : List Named). Holds l g) (sym (append-nil ds)) at

sum_none : (line : Line36) (at : ℕ) (is_entry : Bool) (sum : Option Sum) (taken : Bool) → redefined_refusal line at is_entry sum taken ≡ None → sum_refusal line at is_entry sum ≡ None
sum_none line at is_entry sum true e = absurd (true≢false (ap is_some e))
sum_none line at is_entry sum false e = e

hold_name : (text : List ℕ) (symbols : List (List ℕ × Sum)) (line : Line36) (is_entry : Bool) (ds : List Named) (g : Growth) (span : Span)
    → name_refusal text symbols line is_entry ds span ≡ None → Holds ds g
    → Holds (ds ++ definition_of_name text symbols is_entry span ∷ []) (with_arg text symbols line is_entry g (arg.Symbol span))
unfolding name_refusal definition_of_name
hold_name text symbols line is_entry ds g span e at =
    let name = name_at text span in
    let free = sum_none line span.from is_entry (sum_named (name_at text span) symbols) (is_defined_name ds (name_at text span)) e in
    subst (λ (r : Option AlmRefusal). Holds (ds ++ definition_of_name text symbols is_entry span ∷ []) (with_definition_unless_refused r g (name_at text span))) (sym free)
    (hold_definition ds (definition_of_name text symbols is_entry span) g (with_definition g name) (a_definition g name) (definition_follows g name).links at)

hold_arg : (text : List ℕ) (symbols : List (List ℕ × Sum)) (line : Line36) (is_entry : Bool) (ds : List Named) (g : Growth) (given : Arg)
    → arg_refusal text symbols line is_entry ds given ≡ None → Holds ds g → Holds (ds ++ definition_of_arg text symbols is_entry given) (with_arg text symbols line is_entry g given)
hold_arg text symbols line is_entry ds g (arg.Symbol span) e at = hold_name text symbols line is_entry ds g span e at
hold_arg text symbols line is_entry ds g (arg.Number word) e at = hold_nothing ds g at
hold_arg text symbols line is_entry ds g (arg.Chars words) e at = hold_nothing ds g at
hold_arg text symbols line is_entry ds g (arg.Plain terms) e at = hold_nothing ds g at
hold_arg text symbols line is_entry ds g (arg.Operand pr segment entry terms tag) e at = hold_nothing ds g at

hold_args : (text : List ℕ) (symbols : List (List ℕ × Sum)) (line : Line36) (is_entry : Bool) (ds : List Named) (g : Growth) (first : Option AlmRefusal) (arguments : List Arg)
    → names_refusal text symbols line is_entry ds first arguments ≡ None → Holds ds g
    → Holds (definitions_with text symbols is_entry ds arguments) (with_args text symbols line is_entry g arguments)
unfolding names_refusal definitions_with with_args
hold_args text symbols line is_entry ds g first [] e at = at
hold_args text symbols line is_entry ds g first (given ∷ arguments) e at =
    let more = ds ++ definition_of_arg text symbols is_entry given in
    let refused = arg_refusal text symbols line is_entry ds given in
    let own = (sooner_none first refused (names_first text symbols line is_entry more (earlier_refusal first refused) arguments e)).1 in
    hold_args text symbols line is_entry more (with_arg text symbols line is_entry g given) (earlier_refusal first refused) arguments e (hold_arg text symbols line is_entry ds g given own at)

hold_definitions : (text : List ℕ) (symbols : List (List ℕ × Sum)) (line : Line36) (ds : List Named) (g : Growth) (gives : Option Bool)
    → definitions_refusal text symbols line ds None line.args gives ≡ None → Holds ds g
    → Holds (definitions_if_any text symbols ds line.args gives) (with_definitions text symbols line g gives)
hold_definitions text symbols line ds g None e at = at
hold_definitions text symbols line ds g (Some is_entry) e at = hold_args text symbols line is_entry ds g None line.args e at

-- ---- a link

once_holds : (ds : List Named) (g : Growth) (link : LinkFields) (b : Bool) → Holds ds g → Holds ds (cond b g (with_new_link g link))
unfolding with_new_link words_of all_link_names
once_holds ds g link true at = at
once_holds ds g link false at =
    let before = record g { links = g.links ++ link ∷ []; definition = g.definition + 2 } in
    let after = with_names before (link_names link) in
    let step = all_names before (link_names link) in
    let links = (names_follow before (link_names link)).links in
    record {
      words = step.extends.words (let more = length-append g.links (link ∷ []) in let was = at.words in omega arith);
      defined = λ other e. step.extends.defined other (at.defined other e);
      both = step.extends.both at.both;
      linked = λ other e.
          both_in (all_link_names g.links) (link_names link ++ []) (names_in after.names) (λ n i. step.extends.names n (at.linked n i))
          (both_in (link_names link) [] (names_in after.names) step.there (none_in (names_in after.names))) other
          (ap (λ (names : List (List ℕ)). list_any (same other) names) (sym (all_link_names-append g.links (link ∷ [])))
          ∙ ap (λ (l : List LinkFields). list_any (same other) (all_link_names l)) (sym links) ∙ e);
    }

link_holds : (ds : List Named) (g : Growth) (given : Option LinkFields) → Holds ds g → Holds ds (with_link_if_any g given)
unfolding with_link_once
link_holds ds g None at = at
link_holds ds g (Some link) at = once_holds ds g link (list_any (same_link link) g.links) at

-- ---- the lines

marked_holds : (ds : List Named) (g : Growth) (symbol : ℕ) → Holds ds g → Holds ds (record g { symbol = symbol })
unfolding words_of
marked_holds ds g symbol at = record { words = at.words; defined = at.defined; both = at.both; linked = at.linked }

line_holds : (text : List ℕ) (symbols : List (List ℕ × Sum)) (spot : LocationCounter) (line : Line36) (ds : List Named) (g : Growth)
    → definitions_refusal text symbols line ds None line.args (defines_entries line.deed) ≡ None → Holds ds g
    → Holds (definitions_after text symbols ds line) (growth_after_line text symbols spot g line)
unfolding definitions_after growth_after_line with_relocations
line_holds text symbols spot line ds g e at =
    let after = definitions_if_any text symbols ds line.args (defines_entries line.deed) in
    let definition_of_name = with_definitions text symbols line g (defines_entries line.deed) in
    let given = link_in text symbols spot (first_arg (operand_args line.deed line.args)) in
    let linked = with_link_if_any definition_of_name given in
    marked_holds after linked (linked.symbol + line_relocation_count text symbols spot line.args line.deed)
    (link_holds after definition_of_name given (hold_definitions text symbols line ds g (defines_entries line.deed) e at))

lines_hold : (text : List ℕ) (tables : Tables) (ds : List Named) (g : Growth) (spot : LocationCounter) (lines : List Line36) → lines_refusal text tables ds spot lines ≡ None → Holds ds g
    → Holds (definitions_from text tables.symbols ds lines) (growth_from text tables.symbols g spot lines)
unfolding definitions_from growth_from
lines_hold text tables ds g spot [] e at = at
lines_hold text tables ds g spot (line ∷ lines) e at =
    let own = (line_parts text tables ds spot line (head_line text tables ds spot line lines e)).0 in
    lines_hold text tables (definitions_after text tables.symbols ds line) (growth_after_line text tables.symbols spot g line) (next_line_spot text spot line) lines
    (other_lines text tables ds spot line lines e) (line_holds text tables.symbols spot line ds g own at)

first_holds : Holds [] first_growth
unfolding words_of total definition_names all_link_names
first_holds = record { words = refl; defined = none_in []; both = none_in []; linked = none_in [] }

-- ---- the section

total_definitions : (ds : List Named) → total one (definition_names ds) ≡ length ds
unfolding total definition_names
total_definitions [] = refl
total_definitions (d ∷ ds) = omega (arith, total_definitions ds)

names_fit : (uses names : List (List ℕ)) → AreIn uses names → distinct_names_size uses ≤ total name_size names
unfolding distinct_names_size
names_fit uses names within =
    let once = uses_of [] uses in
    let words = total_words once in
    let fits = total_within name_size once names (uses_distinct uses) (λ name h. within name (sym (any_among name [] uses) ∙ h)) in
    omega arith

can_have_words : (ds : List Named) (g : Growth) → Holds ds g → are_distinct (definition_names ds) ≡ true
    → 2 + 2 * length ds + 2 * length g.links + distinct_names_size (definition_names ds ++ all_link_names g.links) ≤ g.definition
unfolding words_of
can_have_words ds g at distinct =
    let words = at.words in
    let count = total_definitions ds in
    let defined = total_within one (definition_names ds) (names_in g.defined) distinct at.defined in
    let names = names_fit (definition_names ds ++ all_link_names g.links) (names_in g.names)
    (both_in (definition_names ds) (all_link_names g.links) (names_in g.names) (λ name h. at.both name (at.defined name h)) at.linked) in
    omega arith

-- The definition section has at most as many words as are counted.
pub definitions_counted : (text : List ℕ) (tables : Tables) (spot : LocationCounter) (lines : List Line36) → lines_refusal text tables [] spot lines ≡ None
    → are_distinct (definition_names (definitions_from text tables.symbols [] lines)) ≡ true
    → 2 + 2 * length (definitions_from text tables.symbols [] lines) + 2 * length (links_from text tables.symbols [] spot lines)
    + distinct_names_size (definition_names (definitions_from text tables.symbols [] lines) ++ all_link_names (links_from text tables.symbols [] spot lines))
    ≤ (growth_from text tables.symbols first_growth spot lines).definition
definitions_counted text tables spot lines none distinct =
    let ds = definitions_from text tables.symbols [] lines in
    let g = growth_from text tables.symbols first_growth spot lines in
    let counted = can_have_words ds g (lines_hold text tables [] first_growth spot lines none first_holds) distinct in
    subst (λ (l : List LinkFields). 2 + 2 * length ds + 2 * length l + distinct_names_size (definition_names ds ++ all_link_names l) ≤ g.definition)
    (links_grown text tables.symbols first_growth spot lines) counted
