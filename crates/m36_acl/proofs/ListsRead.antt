-- Lists that were parsed have each segment once, and each term once for its segment.
use Rattle.std.proofs.Common.{ℕ, ◌≡◌, ◌+◌, ◌-◌, Bool, true, false, cond, ◌||◌, List, [], ◌∷◌, ◌++◌, length, get_or, nat_le, slice_get, slice_set, Option, Some, None, Ok, Err, refl, sym, ap, subst, ◌∙◌, arith, length-append}
use Rattle.std.specs.List.{list_any}
use Rattle.std.proofs.lemmas.Bool.{leb-false}
use Rattle.std.proofs.lemmas.Cmp.{nat_list_eq_equiv}
use Rattle.std.proofs.lemmas.List.{map-append}
use Rattle.std.proofs.lemmas.List.Elements.{All-nil, All-get_or, All-push, All-set}
use Rattle.std.proofs.lemmas.Option.{slice_get_within, get_or_from_slice_get}
use Rattle.m36_text.specs.Lines.{last_of}
use Rattle.m36_text.specs.Once.{are_distinct_by}
use Rattle.m36_text.specs.Results.{and_then}
use Rattle.m36_dir.specs.BootOrder.{Entry, entry, is_same_entry}
use Rattle.m36_dir.proofs.Distinct.{distinct_more, entry_symm}
use Rattle.m36_acl.specs.declared.fault.AclFault.TheVariants as fault
use Rattle.m36_acl.specs.Fields.{TermFields, AclSegmentFields}
use Rattle.m36_acl.specs.AccessLine.{Line, Segment, Term}
use Rattle.m36_acl.specs.AccessLists.{Lists, ListsResult, is_list_of, has_segment, entries_of_lists, new_segment, most_terms, has_term, with_term, with_term_line, with_line, lists_from, parsed_lines, lists_of, same_term, HasTermsOnce, AreListsOnce, ListsOnce}
use Rattle.m36_acl.proofs.PlaceLaws.{places_kept}

-- ---- a `segment` line

any_place : (given : Entry) (lists : Lists) → list_any (is_same_entry given) (entries_of_lists lists) ≡ has_segment lists given
any_place given [] = refl
any_place given (s ∷ lists) = ap (λ (b : Bool). (is_list_of given s || b)) (any_place given lists)

no_terms : (n : ℕ) (given : Entry) → HasTermsOnce (new_segment n given)
no_terms n given = record { once = refl; few = omega arith }

segment_more : (n : ℕ) (above : Lists) (given : Entry) → has_segment above given ≡ false → AreListsOnce above → AreListsOnce (above ++ new_segment n given ∷ [])
segment_more n above given fresh are =
    let place : Entry = entry given.dir given.name in
    record {
      segments =
          ap (λ (es : List Entry). are_distinct_by is_same_entry es) (map-append (λ (s : AclSegmentFields). entry s.dir s.name) above (new_segment n given ∷ []))
          ∙ distinct_more is_same_entry entry_symm (entries_of_lists above) place are.segments (any_place place above ∙ fresh);
      terms = All-push HasTermsOnce above (new_segment n given) are.terms (no_terms n given);
    }

abbrev segment_told : ℕ → Lists → Entry → Bool → ListsResult
segment_told n above given has = cond has (Err (fault.C2 n)) (Ok (above ++ new_segment n given ∷ []))

segment_by : (n : ℕ) (above : Lists) (given : Entry) (has : Bool) (next : Lists) → has_segment above given ≡ has
    → segment_told n above given has ≡ Ok next → AreListsOnce above → AreListsOnce next
segment_by n above given true next e told are = absurd (cc)
segment_by n above given false next e told are =
    let grown : above ++ new_segment n given ∷ [] ≡ next = cc in
    subst AreListsOnce grown (segment_more n above given e are)

-- ---- a `term` line

term_symm : (a b : TermFields) → same_term a b ≡ same_term b a
term_symm a b = nat_list_eq_equiv.symm b.text a.text

term_more : (last : AclSegmentFields) (term : TermFields) → HasTermsOnce last → nat_le most_terms (length last.terms) ≡ false
    → has_term last.terms term.text ≡ false → HasTermsOnce (with_term last term)
term_more last term has room fresh =
    record {
      once = distinct_more same_term term_symm last.terms term has.once fresh;
      few = omega (arith, length-append last.terms (term ∷ []), leb-false most_terms (length last.terms) room);
    }

lists_more : (above : Lists) (i : ℕ) (last : AclSegmentFields) (term : TermFields) → slice_get above i ≡ Some last
    → nat_le most_terms (length last.terms) ≡ false → has_term last.terms term.text ≡ false
    → AreListsOnce above → AreListsOnce (slice_set above i (with_term last term))
lists_more above i last term at room fresh are =
    let same : get_or above i last ≡ last = get_or_from_slice_get above i last last at in
    let has : HasTermsOnce last = subst HasTermsOnce same (All-get_or HasTermsOnce above i last (slice_get_within above i last at) are.terms) in
    record {
      segments =
          ap (λ (es : List Entry). are_distinct_by is_same_entry es) (places_kept above i last (with_term last term) (sym same) refl refl)
          ∙ are.segments;
      terms = All-set HasTermsOnce above i (with_term last term) (term_more last term has room fresh) are.terms;
    }

abbrev term_told : ℕ → Lists → AclSegmentFields → TermFields → Bool → Bool → ListsResult
term_told n above last term many twice =
    cond many (Err (fault.C1 n)) (cond twice (Err (fault.C2 n)) (Ok (slice_set above (length above - 1) (with_term last term))))

term_by : (n : ℕ) (above : Lists) (last : AclSegmentFields) (term : TermFields) (many twice : Bool) (next : Lists)
    → last_of above ≡ Some last → nat_le most_terms (length last.terms) ≡ many → has_term last.terms term.text ≡ twice
    → term_told n above last term many twice ≡ Ok next → AreListsOnce above → AreListsOnce next
term_by n above last term true twice next at room fresh told are = absurd (cc)
term_by n above last term false true next at room fresh told are = absurd (cc)
term_by n above last term false false next at room fresh told are =
    let grown : slice_set above (length above - 1) (with_term last term) ≡ next = cc in
    subst AreListsOnce grown (lists_more above (length above - 1) last term at room fresh are)

term_of_last : (n : ℕ) (above : Lists) (last : Option AclSegmentFields) (term : TermFields) (next : Lists) → last_of above ≡ last
    → with_term_line n above last term ≡ Ok next → AreListsOnce above → AreListsOnce next
term_of_last n above None term next at told are = absurd (cc)
term_of_last n above (Some last) term next at told are =
    term_by n above last term (nat_le most_terms (length last.terms)) (has_term last.terms term.text) next at refl refl told are

-- ---- the lines in turn

line_once : (n : ℕ) (above : Lists) (given : Option Line) (next : Lists) → with_line n above given ≡ Ok next → AreListsOnce above → AreListsOnce next
line_once n above None next told are = absurd (cc)
line_once n above (Some (Segment given)) next told are = segment_by n above given (has_segment above given) next refl told are
line_once n above (Some (Term term)) next told are = term_of_last n above (last_of above) term next refl told are

-- if the whole succeeds, so does the first step
went : (r : ListsResult) (goes : Lists → ListsResult) (lists : Lists) → and_then r goes ≡ Ok lists → (next : Lists) × (r ≡ Ok next) × (goes next ≡ Ok lists)
went (Ok next) goes lists e = (next, refl, e)
went (Err told) goes lists e = absurd (cc)

lines_once : (n : ℕ) (above : Lists) (given : List (Option Line)) (lists : Lists) → lists_from n above given ≡ Ok lists → AreListsOnce above → AreListsOnce lists
unfolding lists_from
lines_once n above [] lists e are =
    let same : above ≡ lists = cc in
    subst AreListsOnce same are
lines_once n above (line ∷ given) lists e are =
    let step = went (with_line n above line) (λ next. lists_from (n + 1) next given) lists e in
    lines_once (n + 1) step.0 given lists step.2 (line_once n above line step.0 step.1 are)

none_once : AreListsOnce []
none_once = record { segments = refl; terms = All-nil HasTermsOnce }

pub lists_once : ListsOnce
unfolding lists_of
lists_once text lists e = lines_once 1 [] (parsed_lines text) lists e none_once
