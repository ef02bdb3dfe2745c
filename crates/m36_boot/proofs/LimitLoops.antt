-- The call limiters, segment by segment.
use Rattle.std.proofs.Common.{ℕ, suc, ◌≡◌, ◌+◌, ◌-◌, ◌^◌, ◌<◌, ◌≤◌, Bool, true, false, cond, List, [], ◌∷◌, ◌++◌, get_or, Option, Some, None, sym, ap, subst, inl, inr, ◌∙◌, arith, length-append}
use Rattle.std.specs.Option.{option_or}
use Rattle.std.specs.Prelude.{slice_get}
use Rattle.obj36_parts.specs.PartsFields.{PartsFields}
use Rattle.std.proofs.lemmas.Bool.{cases_lt}
use Rattle.std.proofs.lemmas.List.{get_or_append_left, get_or_push}
use Rattle.m36_dir.specs.Catalog.{CatalogFields}
use Rattle.m36_dir.specs.Fields.{SegmentFields}
use Rattle.m36_boot.specs.declared.fault.BootFault.{BootFault}
use Rattle.m36_boot.specs.declared.fault.BootFault.TheVariants as fault
use Rattle.m36_boot.specs.Segments.{file_at, limit_of}
use Rattle.m36_boot.specs.Refusals.{is_entry_count, ReportsGateFault, bound_fault, gate_fault, gate_fault_of, first_gate_fault, limit_at, AreLimits}

gates_by : (catalog : CatalogFields) (files : List (List ℕ)) (i n left : ℕ) → n - i ≡ suc left
    → first_gate_fault catalog files i (n - i)
    ≡ option_or (gate_fault_of (64 + i) (slice_get catalog.segments i) (file_at files i)) (first_gate_fault catalog files (i + 1) left)
unfolding first_gate_fault
gates_by catalog files i n left e = ap (λ m. first_gate_fault catalog files i m) e

gates_here : (catalog : CatalogFields) (files : List (List ℕ)) (i n : ℕ) → i < n
    → first_gate_fault catalog files i (n - i)
    ≡ option_or (gate_fault_of (64 + i) (slice_get catalog.segments i) (file_at files i)) (first_gate_fault catalog files (i + 1) (n - (i + 1)))
gates_here catalog files i n lt = gates_by catalog files i n (n - (i + 1)) (omega (arith, lt))

-- the fault of a segment of the catalog
gates_at : (catalog : CatalogFields) (files : List (List ℕ)) (i n : ℕ) (s : SegmentFields) (words : List ℕ) → i < n
    → slice_get catalog.segments i ≡ Some s → words ≡ file_at files i
    → first_gate_fault catalog files i (n - i) ≡ option_or (gate_fault (64 + i) s words) (first_gate_fault catalog files (i + 1) (n - (i + 1)))
gates_at catalog files i n s words lt at file =
    gates_here catalog files i n lt
    ∙ ap (λ o. option_or (gate_fault_of (64 + i) o (file_at files i)) (first_gate_fault catalog files (i + 1) (n - (i + 1)))) at
    ∙ ap (λ (w : List ℕ). option_or (gate_fault (64 + i) s w) (first_gate_fault catalog files (i + 1) (n - (i + 1)))) (sym file)

told_by : (told : BootFault) (here later total : Option BootFault) → ReportsGateFault told here → option_or here later ≡ total → ReportsGateFault told total
told_by fault.NoMemory here later total says e = tt
told_by fault.U1 here later total says e = sym e ∙ ap (λ o. option_or o later) says
told_by (fault.U2 n) here later total says e = sym e ∙ ap (λ o. option_or o later) says
told_by fault.U3 here later total says e = sym e ∙ ap (λ o. option_or o later) says
told_by (fault.U4 n) here later total says e = sym e ∙ ap (λ o. option_or o later) says

pub limits_stop : (catalog : CatalogFields) (files : List (List ℕ)) (i n : ℕ) (s : SegmentFields) (words : List ℕ) (told : BootFault)
    → i < n → slice_get catalog.segments i ≡ Some s → words ≡ file_at files i → ReportsGateFault told (gate_fault (64 + i) s words)
    → first_gate_fault catalog files i (n - i) ≡ first_gate_fault catalog files 0 n
    → ReportsGateFault told (first_gate_fault catalog files 0 n)
limits_stop catalog files i n s words told lt at file says so_far =
    told_by told (gate_fault (64 + i) s words) (first_gate_fault catalog files (i + 1) (n - (i + 1))) (first_gate_fault catalog files 0 n) says
    (sym (gates_at catalog files i n s words lt at file) ∙ so_far)

pub limits_on : (catalog : CatalogFields) (files : List (List ℕ)) (i n : ℕ) (s : SegmentFields) (words : List ℕ)
    → i < n → slice_get catalog.segments i ≡ Some s → words ≡ file_at files i → gate_fault (64 + i) s words ≡ None
    → first_gate_fault catalog files i (n - i) ≡ first_gate_fault catalog files 0 n
    → first_gate_fault catalog files (i + 1) (n - (i + 1)) ≡ first_gate_fault catalog files 0 n
limits_on catalog files i n s words lt at file none so_far =
    ap (λ o. option_or o (first_gate_fault catalog files (i + 1) (n - (i + 1)))) (sym none)
    ∙ sym (gates_at catalog files i n s words lt at file) ∙ so_far

pub limits_done : (catalog : CatalogFields) (files : List (List ℕ)) (i n : ℕ) → n ≤ i
    → first_gate_fault catalog files i (n - i) ≡ first_gate_fault catalog files 0 n → first_gate_fault catalog files 0 n ≡ None
unfolding first_gate_fault
limits_done catalog files i n le so_far =
    let none : n - i ≡ 0 = omega (arith, le) in
    sym so_far ∙ ap (λ m. first_gate_fault catalog files i m) none

-- ---- a gate, by its object

pub gate_none : (seg : ℕ) (o : Option PartsFields) (p : PartsFields) → o ≡ Some p
    → is_entry_count p.entry_bound ≡ true → bound_fault seg o ≡ None
gate_none seg o p is e = ap (λ x. bound_fault seg x) is ∙ ap (λ (b : Bool). cond b None (Some (fault.U2 seg))) e

pub gate_two : (seg : ℕ) (o : Option PartsFields) (p : PartsFields) → o ≡ Some p
    → is_entry_count p.entry_bound ≡ false → bound_fault seg o ≡ Some (fault.U2 seg)
gate_two seg o p is e = ap (λ x. bound_fault seg x) is ∙ ap (λ (b : Bool). cond b None (Some (fault.U2 seg))) e

pub ruleset gates = (gate_none, gate_two)

pub limits_more : (catalog : CatalogFields) (files : List (List ℕ)) (i l : ℕ) (s : SegmentFields) (words limits new : List ℕ)
    → slice_get catalog.segments i ≡ Some s → words ≡ file_at files i → AreLimits catalog files i limits
    → new ≡ limits ++ l ∷ [] → l ≡ limit_of s words → l < 2 ^ 14 → AreLimits catalog files (i + 1) new
limits_more catalog files i l s words limits new at file so_far pushed is few =
    let P : List ℕ → Type 0 = λ x. AreLimits catalog files (i + 1) x in
    let size = so_far.size in
    let here : l ≡ limit_at (slice_get catalog.segments i) (file_at files i) =
    is ∙ ap (λ (w : List ℕ). limit_of s w) file ∙ ap (λ o. limit_at o (file_at files i)) (sym at) in
    subst P (sym pushed) (record {
      size = let n = length-append limits (l ∷ []) in omega (arith, n, size);
      each = λ j lt.
          elim (cases_lt j i) [
            | inl low ↦ get_or_append_left limits (l ∷ []) 0 j (omega (arith, low, size)) ∙ so_far.each j low
            | inr high ↦
                let same : j ≡ i = omega (arith, lt, high) in
                let Q : ℕ → Type 0 = λ k. get_or (limits ++ l ∷ []) k 0 ≡ limit_at (slice_get catalog.segments k) (file_at files k) in
                subst Q (sym same) (get_or_push limits l 0 i size ∙ here)
          ];
      small = λ j lt.
          elim (cases_lt j i) [
            | inl low ↦
                let old = get_or_append_left limits (l ∷ []) 0 j (omega (arith, low, size)) in
                let before = so_far.small j low in
                omega (arith, old, before)
            | inr high ↦
                let same : j ≡ i = omega (arith, lt, high) in
                let Q : ℕ → Type 0 = λ k. get_or (limits ++ l ∷ []) k 0 < 2 ^ 14 in
                let last = get_or_push limits l 0 i size in
                subst Q (sym same) (omega (arith, last, few))
          ];
    })
