-- Steps of the loop that looks for names that occur twice.
use Rattle.std.proofs.Common.{ℕ, zero, suc, ◌≡◌, ◌+◌, ◌-◌, ◌<◌, ◌≤◌, Bool, true, false, cond, eqb, ◌&&◌, List, [], ◌∷◌, Option, Some, None, refl, sym, ap, ◌∙◌, arith}
use Rattle.std.specs.Prelude.{min, unwrap_or}
use Rattle.std.specs.Option.{option_map}
use Rattle.std.specs.Map.{lookup}
use Rattle.std.specs.Cmp.Lexicographic.{pointwise}
use Rattle.std.proofs.lemmas.Bool.{and_parts, eqb-true}
use Rattle.std.proofs.lemmas.Cmp.{nat_eq_equiv, nat_list_eq_equiv}
use Rattle.indexmap.specs.IndexMap.{insert_entry}
use Rattle.obj36_parts.proofs.SizeLaws.{same_is}
use Rattle.obj36_read.specs.Reading.{quarter_at}
use Rattle.obj36_read.specs.TableFaults.{earlier, index_if_bad, next_definition, name_offset_at, name_is_within, same_quarters, same_name, first_repeat_of, first_repeat}
use Rattle.obj36_read.specs.Spelled.{words_but_last, last_word_value}
use Rattle.obj36_read.specs.Repeated.{has_spelling, least_earlier_place, least_repeated_place}
use Rattle.obj36_read.specs.declared.repeats.Spelling.{Spelling}
use Rattle.obj36_read.proofs.FaultLoops.{earlier-assoc, earlier-none}
use Rattle.obj36_read.proofs.SpelledNames.{spelled_same}

-- ---- lookup in a map after an insertion

module _ {K : Type 0} (eq : K → K → Bool) (test : K → Bool) (key : K) (value : ℕ)
    (agree : test key ≡ true → (k : K) → test k ≡ eq key k) (alike : (k : K) → eq key k ≡ true → test k ≡ test key) where
  kept_or_put : (b : Bool) (old : ℕ) (rest : Option ℕ) → cond b (Some value) rest ≡ cond b (Some value) (cond b (Some old) rest)
  kept_or_put true old rest = refl
  kept_or_put false old rest = refl

  put_found : (es : List (K × ℕ)) → lookup test (insert_entry eq es key value) ≡ cond (test key) (Some value) (lookup test es)
  put_found [] = refl
  put_found (e ∷ es) = by (eq key e.0) refl (put_found es)
    where
      later : (t : Bool) → test key ≡ t → eq key e.0 ≡ false → lookup test (insert_entry eq es key value) ≡ cond (test key) (Some value) (lookup test es)
          → cond (test e.0) (Some e.1) (lookup test (insert_entry eq es key value)) ≡ cond t (Some value) (cond (test e.0) (Some e.1) (lookup test es))
      later true t other more =
          ap (λ b. cond b (Some e.1) (lookup test (insert_entry eq es key value))) (agree t e.0 ∙ other) ∙ more ∙ ap (λ b. cond b (Some value) (lookup test es)) t
      later false t other more = ap (λ o. cond (test e.0) (Some e.1) o) (more ∙ ap (λ b. cond b (Some value) (lookup test es)) t)

      by : (b : Bool) → eq key e.0 ≡ b → lookup test (insert_entry eq es key value) ≡ cond (test key) (Some value) (lookup test es)
          → lookup test (cond b ((e.0, value) ∷ es) (e ∷ insert_entry eq es key value)) ≡ cond (test key) (Some value) (cond (test e.0) (Some e.1) (lookup test es))
      by true found more =
          ap (λ t. cond t (Some value) (lookup test es)) (alike e.0 found) ∙ kept_or_put (test key) e.1 (lookup test es)
          ∙ ap (λ t. cond (test key) (Some value) (cond t (Some e.1) (lookup test es))) (sym (alike e.0 found))
      by false found more = later (test key) refl found more

-- ---- spellings

abbrev pub compare : List ℕ → ℕ → ℕ → Spelling → Bool
compare whole length last s = pointwise eqb whole s.whole.now && (eqb length s.length && eqb last s.last)

record Alike (v w : List ℕ) (m n k l : ℕ) : Type 0 where
  whole : v ≡ w
  length : m ≡ n
  last : k ≡ l

alike_from : (v w : List ℕ) (m n k l : ℕ) → (pointwise eqb v w && (eqb m n && eqb k l)) ≡ true → Alike v w m n k l
alike_from v w m n k l e =
    let a = and_parts (pointwise eqb v w) (eqb m n && eqb k l) e in
    let b = and_parts (eqb m n) (eqb k l) a.1 in
    record { whole = same_is v w a.0; length = eqb-true m n b.0; last = eqb-true k l b.1 }

module _ (d : List ℕ) (at : ℕ) (key : Spelling) where
  -- a name that is spelled as the key gives the same lookup as the key
  asked : has_spelling d at key ≡ true → (s : Spelling) → has_spelling d at s ≡ compare key.whole.now key.length key.last s
  unfolding has_spelling
  asked e s =
      let h = alike_from (words_but_last d at) key.whole.now (quarter_at d at 0) key.length (last_word_value d at) key.last e in
      λ i. pointwise eqb (h.whole i) s.whole.now && (eqb (h.length i) s.length && eqb (h.last i) s.last)

  found_so : (s : Spelling) → compare key.whole.now key.length key.last s ≡ true → has_spelling d at s ≡ has_spelling d at key
  unfolding has_spelling
  found_so s e =
      let h = alike_from key.whole.now s.whole.now key.length s.length key.last s.last e in
      λ i. pointwise eqb (words_but_last d at) (sym h.whole i) && (eqb (quarter_at d at 0) (sym h.length i) && eqb (last_word_value d at) (sym h.last i))

-- ---- the least place of a spelling

lesser_or : (q r : ℕ) (found : Option ℕ) → Some (min r (unwrap_or (option_map (min q) found) q)) ≡ earlier (option_map (min r) found) (Some (min q r))
lesser_or q r None = ap Some (let e : min r q ≡ min q r = omega arith in e)
lesser_or q r (Some v) = ap Some (let e : min r (min q v) ≡ min (min r v) (min q r) = omega arith in e)

module _ (d : List ℕ) (q : ℕ) (key : Spelling) (places newer : List (Spelling × ℕ)) (here : Option ℕ)
    (in_section : name_is_within d q ≡ true) (whole : key.whole.now ≡ words_but_last d q) (count : key.length ≡ quarter_at d q 0) (last : key.last ≡ last_word_value d q)
    (told : here ≡ option_map (min q) (lookup (compare key.whole.now key.length key.last) places))
    (put : newer ≡ insert_entry (λ a b. compare a.whole.now a.length a.last b) places key (unwrap_or here q)) where
  pub here_is : here ≡ least_earlier_place d places q
  unfolding least_earlier_place has_spelling
  here_is =
      told ∙ (λ i. option_map (min q) (lookup (λ s. pointwise eqb (whole i) s.whole.now && (eqb (count i) s.length && eqb (last i) s.last)) places))
      ∙ sym (ap (λ b. cond b (option_map (min q) (lookup (has_spelling d q) places)) None) in_section)

  same_as_key : (r : ℕ) → name_is_within d r ≡ true → has_spelling d r key ≡ same_quarters d q r 0 (quarter_at d q 0 + 1)
  unfolding has_spelling
  same_as_key r in_too =
      (λ i. pointwise eqb (words_but_last d r) (whole i) && (eqb (quarter_at d r 0) (count i) && eqb (last_word_value d r) (last i)))
      ∙ (λ i. nat_list_eq_equiv.symm (words_but_last d r) (words_but_last d q) i && (nat_eq_equiv.symm (quarter_at d r 0) (quarter_at d q 0) i && nat_eq_equiv.symm (last_word_value d r) (last_word_value d q) i))
      ∙ sym (spelled_same d q r in_section in_too)

  looked_up : (r : ℕ) → lookup (has_spelling d r) newer ≡ cond (has_spelling d r key) (Some (unwrap_or here q)) (lookup (has_spelling d r) places)
  looked_up r =
      ap (lookup (has_spelling d r)) put
      ∙ put_found (λ a b. compare a.whole.now a.length a.last b) (has_spelling d r) key (unwrap_or here q) (asked d r key) (found_so d r key) places

  one_more : (r : ℕ) (t : Bool) → name_is_within d r ≡ true → has_spelling d r key ≡ t
      → option_map (min r) (cond t (Some (unwrap_or here q)) (lookup (has_spelling d r) places)) ≡ earlier (option_map (min r) (lookup (has_spelling d r) places)) (index_if_bad t (min q r))
  one_more r false in_too e = sym (earlier-none (option_map (min r) (lookup (has_spelling d r) places)))
  one_more r true in_too e =
      let found : lookup (compare key.whole.now key.length key.last) places ≡ lookup (has_spelling d r) places = λ i. lookup (λ s. sym (asked d r key e s) i) places in
      ap (λ o. Some (min r (unwrap_or o q))) (told ∙ ap (option_map (min q)) found)
      ∙ lesser_or q r (lookup (has_spelling d r) places)

  by_place : (r : ℕ) (b : Bool) → name_is_within d r ≡ b
      → cond b (option_map (min r) (lookup (has_spelling d r) newer)) None
      ≡ earlier (cond b (option_map (min r) (lookup (has_spelling d r) places)) None) (index_if_bad ((name_is_within d q && b) && same_quarters d q r 0 (quarter_at d q 0 + 1)) (min q r))
  by_place r false e = ap (λ t. index_if_bad ((t && false) && same_quarters d q r 0 (quarter_at d q 0 + 1)) (min q r)) (sym in_section)
  by_place r true e =
      ap (option_map (min r)) (looked_up r) ∙ one_more r (has_spelling d r key) e refl
      ∙ (λ i. earlier (option_map (min r) (lookup (has_spelling d r) places)) (index_if_bad (((sym in_section i) && true) && same_as_key r e i) (min q r)))

  pub least_more : (r : ℕ) → least_earlier_place d newer r ≡ earlier (least_earlier_place d places r) (index_if_bad (same_name d q r) (min q r))
  unfolding least_earlier_place same_name
  least_more r = by_place r (name_is_within d r) refl

pub outside_is : (d : List ℕ) (places : List (Spelling × ℕ)) (q : ℕ) → name_is_within d q ≡ false → None ≡ least_earlier_place d places q
unfolding least_earlier_place
outside_is d places q out = sym (ap (λ b. cond b (option_map (min q) (lookup (has_spelling d q) places)) None) out)

pub outside_more : (d : List ℕ) (places : List (Spelling × ℕ)) (q : ℕ) → name_is_within d q ≡ false
    → (r : ℕ) → least_earlier_place d places r ≡ earlier (least_earlier_place d places r) (index_if_bad (same_name d q r) (min q r))
unfolding same_name
outside_more d places q out r =
    sym (earlier-none (least_earlier_place d places r))
    ∙ ap (λ b. earlier (least_earlier_place d places r) (index_if_bad ((b && name_is_within d r) && same_quarters d q r 0 (quarter_at d q 0 + 1)) (min q r))) (sym out)

-- ---- the loop

earlier-comm : (a b : Option ℕ) → earlier a b ≡ earlier b a
earlier-comm None None = refl
earlier-comm None (Some q) = refl
earlier-comm (Some p) None = refl
earlier-comm (Some p) (Some q) = ap Some (let e : min p q ≡ min q p = omega arith in e)

crossed : (a b c e : Option ℕ) → earlier (earlier a b) (earlier c e) ≡ earlier (earlier a c) (earlier b e)
crossed a b c e =
    earlier-assoc a b (earlier c e) ∙ ap (earlier a) (sym (earlier-assoc b c e) ∙ ap (λ x. earlier x e) (earlier-comm b c) ∙ earlier-assoc c b e)
    ∙ sym (earlier-assoc a c (earlier b e))

each_more : (d : List ℕ) (places newer : List (Spelling × ℕ)) (q : ℕ)
    → ((r : ℕ) → least_earlier_place d newer r ≡ earlier (least_earlier_place d places r) (index_if_bad (same_name d q r) (min q r)))
    → (count at : ℕ) → least_repeated_place d newer count at ≡ earlier (least_repeated_place d places count at) (first_repeat_of d q count at)
unfolding least_repeated_place first_repeat_of
each_more d places newer q more zero at = refl
each_more d places newer q more (suc count) at =
    (λ i. earlier (more (name_offset_at d at) i) (each_more d places newer q more count (next_definition d at) i))
    ∙ crossed (least_earlier_place d places (name_offset_at d at)) (index_if_bad (same_name d q (name_offset_at d at)) (min q (name_offset_at d at)))
    (least_repeated_place d places count (next_definition d at)) (first_repeat_of d q count (next_definition d at))

no_place : (d : List ℕ) (r : ℕ) (b : Bool) → cond b (option_map (min r) (lookup (has_spelling d r) [])) None ≡ None
no_place d r true = refl
no_place d r false = refl

nothing : (d : List ℕ) (count at : ℕ) → least_repeated_place d [] count at ≡ None
unfolding least_repeated_place least_earlier_place
nothing d zero at = refl
nothing d (suc count) at =
    λ i. earlier (no_place d (name_offset_at d at) (name_is_within d (name_offset_at d at)) i) (nothing d count (next_definition d at) i)

pub repeats_begin : (d : List ℕ) (places : List (Spelling × ℕ)) (count at : ℕ) → places ≡ [] → earlier (least_repeated_place d places count at) (first_repeat d count at) ≡ first_repeat d count at
repeats_begin d places count at e = ap (λ x. earlier x (first_repeat d count at)) (ap (λ (es : List (Spelling × ℕ)). least_repeated_place d es count at) e ∙ nothing d count at)

pub repeats_more : (d : List ℕ) (places newer : List (Spelling × ℕ)) (count i at next place : ℕ) (here : Option ℕ) → i < count → next ≡ next_definition d at → place ≡ name_offset_at d at
    → here ≡ least_earlier_place d places place
    → ((r : ℕ) → least_earlier_place d newer r ≡ earlier (least_earlier_place d places r) (index_if_bad (same_name d place r) (min place r)))
    → earlier (least_repeated_place d places (count - i) at) (first_repeat d (count - i) at) ≡ earlier here (earlier (least_repeated_place d newer (count - (i + 1)) next) (first_repeat d (count - (i + 1)) next))
unfolding least_repeated_place first_repeat
repeats_more d places newer count i at next place here lt n p h more =
    let left = count - (i + 1) in
    let k : count - i ≡ suc left = omega arith in
    let there = next_definition d at in
    (λ j. earlier (least_repeated_place d places (k j) at) (first_repeat d (k j) at))
    ∙ (λ j. earlier (earlier (least_earlier_place d places (sym p j)) (least_repeated_place d places left there)) (earlier (first_repeat_of d (sym p j) left there) (first_repeat d left there)))
    ∙ (λ j. earlier (earlier (sym h j) (least_repeated_place d places left there)) (earlier (first_repeat_of d place left there) (first_repeat d left there)))
    ∙ earlier-assoc here (least_repeated_place d places left there) (earlier (first_repeat_of d place left there) (first_repeat d left there))
    ∙ ap (earlier here) (sym (earlier-assoc (least_repeated_place d places left there) (first_repeat_of d place left there) (first_repeat d left there)))
    ∙ (λ j. earlier here (earlier (sym (each_more d places newer place more left there) j) (first_repeat d left there)))
    ∙ (λ j. earlier here (earlier (least_repeated_place d newer left (sym n j)) (first_repeat d left (sym n j))))

pub repeats_end : (d : List ℕ) (places : List (Spelling × ℕ)) (count i at : ℕ) → count ≤ i → earlier (least_repeated_place d places (count - i) at) (first_repeat d (count - i) at) ≡ None
unfolding least_repeated_place first_repeat
repeats_end d places count i at le = let k : count - i ≡ 0 = omega arith in λ j. earlier (least_repeated_place d places (k j) at) (first_repeat d (k j) at)
