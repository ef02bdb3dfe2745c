-- Recording one more descriptor, with the number of the first one with the same words.
use Rattle.std.proofs.Common.{◌≡◌, ◌≢◌, ℕ, ◌+◌, ◌-◌, ◌*◌, ◌/◌, ◌%◌, ◌^◌, ◌<◌, ◌≤◌, length, refl, sym, ◌∙◌, ap, subst, inl, inr, arith, cond, get_or}
use Rattle.std.specs.Prelude.{◌⊎◌, Bool, true, false, ◌==◌, nat_lt, List, slice_get, slice_index, slice_set, replicate, Option, Some, None, MatchOption}
use Rattle.std.proofs.lemmas.Bool.{cases_eq, cases_lt, eqb-true, eq-eqb, ltb-true}
use Rattle.std.proofs.lemmas.List.{get_or-set_same, get_or-set_other, length-set, length-replicate}
use Rattle.std.proofs.lemmas.Option.{slice_get_cases, get_or_from_slice_get}
use Rattle.m36_desc.specs.Fields.{DbrFields}
use Rattle.m36_model.specs.Place.{has_descriptor_in_bounds}
use Rattle.m36_audit.specs.Classes.{IsDescriptorKey, KeyAt, AreFirstEquals, IsKeyRecorded, IsDescriptorRecorded, AreDescriptorsRecorded}
use Rattle.m36_audit.proofs.Bounds.{sdw_place_in_bounds}
use Rattle.m36_audit.proofs.SameDescriptors.{keys_same, numbered, numbered_odd}
use Rattle.m36_audit.proofs.TableWords.{zeros}

module _ (core : List ℕ) (dbrs : List DbrFields) (few : length dbrs ≤ 8) where
  -- numbers without a key are skipped
  pub noted_on : (n m : ℕ) (places : ℕ → Option ℕ) (firsts : List ℕ) → n ≤ m → ((i key : ℕ) → n ≤ i → i < m → KeyAt core dbrs i key → ⊥) → AreDescriptorsRecorded core dbrs n places firsts → AreDescriptorsRecorded core dbrs m places firsts
  noted_on n m places firsts le none s =
      record {
        len = s.len;
        below = s.below;
        listed = λ i key lt h. s.listed i key (near i key lt h) h;
        known = s.known;
        earlier = λ key f h. let lt = s.earlier key f h in omega arith;
        small = λ i key lt h. s.small i key (near i key lt h) h;
      }
    where
      near : (i key : ℕ) → i < m → KeyAt core dbrs i key → i < n
      near i key lt h = at (cases_lt i n)
        where
          at : (i < n) ⊎ (n ≤ i) → i < n
          at (inl k) = k
          at (inr far) = absurd (none i key far lt h)

  module _ (n : ℕ) (inside : n < 2 ^ 15 * length dbrs) (places new : ℕ → Option ℕ) (firsts after : List ℕ) (s : AreDescriptorsRecorded core dbrs n places firsts) (small : (x : ℕ) → (h : KeyAt core dbrs n x) → h.is.odd < 2 ^ 36) where
    last : (i : ℕ) → i < n + 1 → (i < n) ⊎ (i ≡ n)
    last i lt = at (cases_lt i n)
      where
        at : (i < n) ⊎ (n ≤ i) → (i < n) ⊎ (i ≡ n)
        at (inl k) = inl k
        at (inr far) = inr (omega arith)

    small_at : (i key : ℕ) → (i < n) ⊎ (i ≡ n) → (h : KeyAt core dbrs i key) → h.is.odd < 2 ^ 36
    small_at i key (inl lt) h = s.small i key lt h
    small_at i key (inr e) h = let P : ℕ → Type 0 = λ m. (k : KeyAt core dbrs m key) → k.is.odd < 2 ^ 36 in subst P (sym e) (small key) h

    lies : n < length firsts
    lies = let len = s.len in omega arith

    put_at : (f i : ℕ) → (i < n) ⊎ (i ≡ n) → (list : List ℕ) → list ≡ slice_set firsts n f → ((i < n) × (slice_index list i ≡ slice_index firsts i)) ⊎ ((i ≡ n) × (slice_index list i ≡ f))
    put_at f i (inl lt) list e =
        let far : i ≢ n = omega arith in
        inl (lt, ap (λ (l : List ℕ). slice_index l i) e ∙ get_or-set_other firsts n i f 0 far)
    put_at f i (inr g) list e =
        inr (g, ap (λ (l : List ℕ). slice_index l i) e ∙ ap (slice_index (slice_set firsts n f)) g ∙ get_or-set_same firsts n f 0 lies)

    put_below : (f : ℕ) → f < 2 ^ 18 → (i : ℕ) → slice_index (slice_set firsts n f) i < 2 ^ 18
    put_below f lt i = at (cases_eq i n)
      where
        at : (i ≡ n) ⊎ (i ≡ n → ⊥) → slice_index (slice_set firsts n f) i < 2 ^ 18
        at (inl e) = let is = ap (slice_index (slice_set firsts n f)) e ∙ get_or-set_same firsts n f 0 lies in omega arith
        at (inr far) = let is = get_or-set_other firsts n i f 0 far in let before = s.below i in omega arith

    module _ (x : ℕ) (here : KeyAt core dbrs n x) where
      found_noted : (f : ℕ) → places x ≡ Some f → ((q : ℕ) → new q ≡ places q) → after ≡ slice_set firsts n f → AreDescriptorsRecorded core dbrs (n + 1) new after
      found_noted f found kept put =
          record {
            len = ap length put ∙ length-set firsts n f ∙ s.len;
            below = λ i. let lt = s.earlier x f found in subst (λ (l : List ℕ). slice_index l i < 2 ^ 18) (sym put) (put_below f (omega arith) i);
            listed = λ i key lt h. at i key h (put_at f i (last i lt) after put);
            known = λ key g h. s.known key g (sym (kept key) ∙ h);
            earlier = λ key g h. let lt = s.earlier key g (sym (kept key) ∙ h) in omega arith;
            small = λ i key lt h. small_at i key (last i lt) h;
          }
        where
          at : (i key : ℕ) → KeyAt core dbrs i key → ((i < n) × (slice_index after i ≡ slice_index firsts i)) ⊎ ((i ≡ n) × (slice_index after i ≡ f)) → new key ≡ Some (slice_index after i)
          at i key h (inl k) = kept key ∙ s.listed i key k.0 h ∙ ap (λ (m : ℕ). Some m) (sym k.1)
          at i key h (inr k) =
              let same : key ≡ x = keys_same core dbrs n key x (subst (λ (m : ℕ). KeyAt core dbrs m key) k.0 h) here in
              kept key ∙ ap places same ∙ found ∙ ap (λ (m : ℕ). Some m) (sym k.1)

      new_noted : places x ≡ None → ((q : ℕ) → new q ≡ cond (x == q) (Some n) (places q)) → after ≡ slice_set firsts n n → AreDescriptorsRecorded core dbrs (n + 1) new after
      new_noted absent kept put =
          record {
            len = ap length put ∙ length-set firsts n n ∙ s.len;
            below = λ i. subst (λ (l : List ℕ). slice_index l i < 2 ^ 18) (sym put) (put_below n (omega arith) i);
            listed = λ i key lt h. at i key h (put_at n i (last i lt) after put);
            known = λ key f h. known_by key f (x == key) refl (sym (kept key) ∙ h);
            earlier = λ key f h. earlier_by key f (x == key) refl (sym (kept key) ∙ h);
            small = λ i key lt h. small_at i key (last i lt) h;
          }
        where
          known_by : (key f : ℕ) (b : Bool) → (x == key) ≡ b → cond b (Some n) (places key) ≡ Some f → KeyAt core dbrs f key
          known_by key f true e h =
              let same : n ≡ f = cc in
              subst (λ (m : ℕ). KeyAt core dbrs m key) same (subst (KeyAt core dbrs n) (eqb-true x key e) here)
          known_by key f false e h = s.known key f h

          earlier_by : (key f : ℕ) (b : Bool) → (x == key) ≡ b → cond b (Some n) (places key) ≡ Some f → f < n + 1
          earlier_by key f true e h = let same : n ≡ f = cc in omega arith
          earlier_by key f false e h = let lt = s.earlier key f h in omega arith

          other : (i key : ℕ) (b : Bool) → (x == key) ≡ b → places key ≡ Some (slice_index firsts i) → cond b (Some n) (places key) ≡ Some (slice_index firsts i)
          other i key true e h = let same : places x ≡ places key = ap places (eqb-true x key e) in cc
          other i key false e h = h

          at : (i key : ℕ) → KeyAt core dbrs i key → ((i < n) × (slice_index after i ≡ slice_index firsts i)) ⊎ ((i ≡ n) × (slice_index after i ≡ n)) → new key ≡ Some (slice_index after i)
          at i key h (inl k) = kept key ∙ other i key (x == key) refl (s.listed i key k.0 h) ∙ ap (λ (m : ℕ). Some m) (sym k.1)
          at i key h (inr k) =
              let same : key ≡ x = keys_same core dbrs n key x (subst (λ (m : ℕ). KeyAt core dbrs m key) k.0 h) here in
              kept key ∙ ap (λ (b : Bool). cond b (Some n) (places key)) (eq-eqb x key (sym same)) ∙ ap (λ (m : ℕ). Some m) (sym k.1)

      first_noted : (o : Option ℕ) → places x ≡ o → IsKeyRecorded places new firsts after x n o → AreDescriptorsRecorded core dbrs (n + 1) new after
      first_noted (Some f) e h = found_noted f e h.0 h.1
      first_noted None e h = new_noted e h.0 h.1

    pub noted_next : (key : Option ℕ) → ((x : ℕ) → key ≡ Some x → KeyAt core dbrs n x) → (key ≡ None → (x : ℕ) → KeyAt core dbrs n x → ⊥) → IsDescriptorRecorded places new firsts after key n → AreDescriptorsRecorded core dbrs (n + 1) new after
    noted_next None hit miss h =
        let le : n ≤ n + 1 = omega arith in
        let there = noted_on n (n + 1) places firsts le (λ i key far lt k. let e : i ≡ n = omega arith in miss refl key (subst (λ (m : ℕ). KeyAt core dbrs m key) e k)) s in
        record {
          len = ap length h.1 ∙ there.len;
          below = λ i. subst (λ (l : List ℕ). slice_index l i < 2 ^ 18) (sym h.1) (there.below i);
          listed = λ i key lt k. h.0 key ∙ there.listed i key lt k ∙ ap (λ (l : List ℕ). Some (slice_index l i)) (sym h.1);
          known = λ key f k. there.known key f (sym (h.0 key) ∙ k);
          earlier = λ key f k. there.earlier key f (sym (h.0 key) ∙ k);
          small = there.small;
        }
    noted_next (Some x) hit miss h = first_noted x (hit x refl) (places x) refl h

  -- a key of a segment of process k is the key of its number, and conversely
  module _ (k : ℕ) (dbr : DbrFields) (process : slice_get dbrs k ≡ Some dbr) where
    pub key_taken : (seg key : ℕ) → seg < 2 ^ 15 → KeyAt core dbrs (2 ^ 15 * k + seg) key → IsDescriptorKey core dbr seg key
    key_taken seg key lt h =
        let quotient : (2 ^ 15 * k + seg) / 2 ^ 15 ≡ k = omega arith in
        let rest : (2 ^ 15 * k + seg) % 2 ^ 15 ≡ seg = omega arith in
        let at : slice_get dbrs k ≡ Some h.dbr = ap (slice_get dbrs) (sym quotient) ∙ h.process in
        let one : h.dbr ≡ dbr = cc in
        subst (λ (d : DbrFields). IsDescriptorKey core d seg key) one (subst (λ (m : ℕ). IsDescriptorKey core h.dbr m key) rest h.is)

    pub small_taken : (seg : ℕ) → seg < 2 ^ 15 → ((key : ℕ) → (h : IsDescriptorKey core dbr seg key) → h.odd < 2 ^ 36) → (key : ℕ) → (h : KeyAt core dbrs (2 ^ 15 * k + seg) key) → h.is.odd < 2 ^ 36
    small_taken seg lt small key h =
        let mine = key_taken seg key lt h in
        let bound = small key mine in
        let e = numbered_odd core dbrs k seg key dbr process lt mine h in
        omega arith

    -- there are no keys after the last descriptor
    pub none_past : (n m : ℕ) → ((q : ℕ) → has_descriptor_in_bounds dbr q ≡ nat_lt q n) → n ≤ m → (i key : ℕ) → 2 ^ 15 * k + m ≤ i → i < 2 ^ 15 * (k + 1) → KeyAt core dbrs i key → ⊥
    none_past n m bounds enough i key far near h =
        let e : i ≡ 2 ^ 15 * k + (i - 2 ^ 15 * k) = omega arith in
        let small : i - 2 ^ 15 * k < 2 ^ 15 = omega arith in
        let mine = key_taken (i - 2 ^ 15 * k) key small (subst (λ (j : ℕ). KeyAt core dbrs j key) e h) in
        let lt = ltb-true (i - 2 ^ 15 * k) n (sym (bounds (i - 2 ^ 15 * k)) ∙ sdw_place_in_bounds core dbr (i - 2 ^ 15 * k) mine.at mine.found) in
        omega arith

  pub nothing_noted : (places : ℕ → Option ℕ) (firsts : List ℕ) → ((q : ℕ) → places q ≡ None) → firsts ≡ replicate (2 ^ 15 * length dbrs) 0 → AreDescriptorsRecorded core dbrs 0 places firsts
  nothing_noted places firsts none e =
      record {
        len = ap length e ∙ length-replicate {A = ℕ} (2 ^ 15 * length dbrs) 0;
        below = λ i. let is = ap (λ (l : List ℕ). slice_index l i) e ∙ zeros (2 ^ 15 * length dbrs) i (cases_lt i (2 ^ 15 * length dbrs)) in omega arith;
        listed = λ i key lt h. absurd (omega arith);
        known = λ key f h. let is = none key in cc;
        earlier = λ key f h. let is = none key in cc;
        small = λ i key lt h. absurd (omega arith);
      }

  pub all_noted : (n : ℕ) (places : ℕ → Option ℕ) (firsts : List ℕ) → AreDescriptorsRecorded core dbrs n places firsts → AreFirstEquals core dbrs n firsts
  all_noted n places firsts s =
      record {
        len = s.len;
        below = s.below;
        each = λ i key lt h. s.known key (slice_index firsts i) (s.listed i key lt h);
        before = λ i key lt h. s.earlier key (slice_index firsts i) (s.listed i key lt h);
        small = s.small;
        same = λ i j key lt lt_too h k. let one = s.listed i key lt h in let other = s.listed j key lt_too k in cc;
      }

pub hit_of : (o : Option ℕ) (No : Type 0) (Is : ℕ → Type 0) → MatchOption o No Is → (x : ℕ) → o ≡ Some x → Is x
hit_of None No Is h x e = cc
hit_of (Some y) No Is h x e = let same : y ≡ x = cc in subst Is same h

pub miss_of : (o : Option ℕ) (No : Type 0) (Is : ℕ → Type 0) → MatchOption o No Is → o ≡ None → No
miss_of None No Is h e = h
miss_of (Some y) No Is h e = cc

-- the process of a number that was looked up
pub dbr_at : (dbrs : List DbrFields) (k : ℕ) (d : DbrFields) → k < length dbrs → d ≡ get_or dbrs k d → slice_get dbrs k ≡ Some d
dbr_at dbrs k d lt e = at (slice_get_cases dbrs k).1
  where
    at : ((x : DbrFields) × (k < length dbrs) × (slice_get dbrs k ≡ Some x) × (get_or dbrs k x ≡ x)) ⊎ ((length dbrs ≤ k) × (slice_get dbrs k ≡ None)) → slice_get dbrs k ≡ Some d
    at (inl h) = h.2 ∙ ap (λ (x : DbrFields). Some x) (sym (e ∙ get_or_from_slice_get dbrs k h.0 d h.2))
    at (inr h) = let past = h.0 in absurd (omega arith)

-- the descriptor of one segment more
pub noted_step : (core : List ℕ) (dbrs : List DbrFields) → length dbrs ≤ 8 → (k seg : ℕ) (dbr : DbrFields) → slice_get dbrs k ≡ Some dbr → k < length dbrs → seg < 2 ^ 15 → (places new : ℕ → Option ℕ) (firsts after : List ℕ) (key : Option ℕ) (table_number : ℕ) → table_number ≡ 2 ^ 15 * k + seg → MatchOption key ((x : ℕ) → IsDescriptorKey core dbr seg x → ⊥) (λ x. IsDescriptorKey core dbr seg x) → ((x : ℕ) → (h : IsDescriptorKey core dbr seg x) → h.odd < 2 ^ 36) → IsDescriptorRecorded places new firsts after key table_number → AreDescriptorsRecorded core dbrs (2 ^ 15 * k + seg) places firsts → AreDescriptorsRecorded core dbrs (2 ^ 15 * k + (seg + 1)) new after
noted_step core dbrs few k seg dbr process there small places new firsts after key table_number e says odd noted s =
    let inside : 2 ^ 15 * k + seg < 2 ^ 15 * length dbrs = omega arith in
    let next : 2 ^ 15 * k + seg + 1 ≡ 2 ^ 15 * k + (seg + 1) = omega arith in
    subst (λ (n : ℕ). AreDescriptorsRecorded core dbrs n new after) next
    (noted_next core dbrs few (2 ^ 15 * k + seg) inside places new firsts after s (small_taken core dbrs few k dbr process seg small odd) key
    (λ x f. numbered core dbrs k seg x dbr process small (hit_of key _ _ says x f))
    (λ f x h. miss_of key _ _ says f x (key_taken core dbrs few k dbr process seg x small h))
    (subst (IsDescriptorRecorded places new firsts after key) e noted))

pub noted_rest : (core : List ℕ) (dbrs : List DbrFields) → length dbrs ≤ 8 → (k : ℕ) (dbr : DbrFields) → slice_get dbrs k ≡ Some dbr → (n m : ℕ) → ((q : ℕ) → has_descriptor_in_bounds dbr q ≡ nat_lt q n) → n ≤ m → m ≤ 2 ^ 15 → (places : ℕ → Option ℕ) (firsts : List ℕ) → AreDescriptorsRecorded core dbrs (2 ^ 15 * k + m) places firsts → AreDescriptorsRecorded core dbrs (2 ^ 15 * (k + 1)) places firsts
noted_rest core dbrs few k dbr process n m bounds enough most places firsts s =
    noted_on core dbrs few (2 ^ 15 * k + m) (2 ^ 15 * (k + 1)) places firsts (omega arith) (none_past core dbrs few k dbr process n m bounds enough) s

-- the value that was read is the one in the contracts
pub value_at : (values : List ℕ) (n v : ℕ) → n < length values → v ≡ get_or values n v → v ≡ slice_index values n
value_at values n v lt e = at (slice_get_cases values n).1
  where
    at : ((x : ℕ) × (n < length values) × (slice_get values n ≡ Some x) × (get_or values n x ≡ x)) ⊎ ((length values ≤ n) × (slice_get values n ≡ None)) → v ≡ slice_index values n
    at (inl h) = e ∙ get_or_from_slice_get values n h.0 v h.2 ∙ sym (get_or_from_slice_get values n h.0 0 h.2)
    at (inr h) = let past = h.0 in absurd (omega arith)

pub dbr_of : (dbrs : List DbrFields) (k : ℕ) → k < length dbrs → (d : DbrFields) × (slice_get dbrs k ≡ Some d)
dbr_of dbrs k lt = at (slice_get_cases dbrs k).1
  where
    at : ((x : DbrFields) × (k < length dbrs) × (slice_get dbrs k ≡ Some x) × (get_or dbrs k x ≡ x)) ⊎ ((length dbrs ≤ k) × (slice_get dbrs k ≡ None)) → (d : DbrFields) × (slice_get dbrs k ≡ Some d)
    at (inl h) = (h.0, h.2)
    at (inr h) = let past = h.0 in absurd (omega arith)
