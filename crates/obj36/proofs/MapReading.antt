-- The map of a list, and the sections into which it divides the list.
use Rattle.std.proofs.Common.{ℕ, suc, ◌≡◌, ◌+◌, ◌-◌, ◌^◌, ◌<◌, ◌≤◌, Bool, true, false, cond, eqb, List, [], ◌++◌, length, get_or, take, drop, refl, sym, ap, ◌∙◌, append_assoc, arith}
use Rattle.std.specs.Prelude.{slice_index}
use Rattle.std.proofs.lemmas.Bool.{cond-true, cond-false, eq-eqb, ne_eqb}
use Rattle.std.proofs.lemmas.List.{length-append, get_or-append_right, take_at, drop_at}
use Rattle.obj36_parts.specs.Fields.{LinkFields}
use Rattle.obj36_parts.specs.Halves.{left, right, word_with_halves}
use Rattle.obj36_parts.specs.ObjectSegment.{map_part, linkage_part, link_words}
use Rattle.obj36_read.specs.Reading.{map_index, version_in, section_length_in_map, count_of_items, from_definition, from_linkage, from_statics, from_symbol, link_start, first_link_in_head, statics_in, bound_in}
use Rattle.obj36.proofs.TableReading.{left_joined, right_joined}

pub in_map : (front m : List ℕ) (i j : ℕ) → j ≡ length front + i → slice_index (front ++ m) j ≡ slice_index m i
in_map front m i j e = get_or-append_right front m (length front) j 0 refl (omega arith) ∙ ap (λ n. get_or m n 0) (let z : j - length front ≡ i = omega arith in z)

pub record IsMapped (words : List ℕ) (newer : Bool) (t d k s b : ℕ) : Type 0 where
  pub version : version_in words ≡ cond newer 2 1
  pub text : section_length_in_map words 1 ≡ t
  pub definition : section_length_in_map words 2 ≡ d
  pub linkage : section_length_in_map words 3 ≡ k
  pub statics : newer ≡ true → section_length_in_map words 4 ≡ s
  pub bound : bound_in words ≡ b

pub placed : (front m : List ℕ) (last : ℕ) → length m ≡ suc last → slice_index m last ≡ word_with_halves (length front) 0 → length front < 2 ^ 18 → map_index (front ++ m) ≡ length front
unfolding map_index
placed front m last e f lt =
    ap left (in_map front m last (length (front ++ m) - 1) (omega (arith, length-append front m)) ∙ f) ∙ left_joined (length front) 0 lt

pub mapped : (newer : Bool) (front : List ℕ) (t d k s y b : ℕ) → t + d + k + s + y ≡ length front → length front < 2 ^ 18 → b < 2 ^ 18 → IsMapped (front ++ map_part newer t d k s y b) newer t d k s b
unfolding map_part version_in section_length_in_map bound_in
mapped true front t d k s y b e lt small =
    let m = map_part true t d k s y b in
    let words = front ++ m in
    let place : map_index words ≡ length front = placed front m 7 refl (ap (λ n. word_with_halves n 0) e) lt in
    let long : length words ≡ length front + 8 = length-append front m in
    let version : version_in words ≡ 2 = cond-true (eqb (map_index words + 8) (length words)) 2 1 (eq-eqb (map_index words + 8) (length words) (omega arith)) in
    record {
      version = version;
      text = ap right (in_map front m 1 (map_index words + 1) (omega arith)) ∙ right_joined 0 t (omega arith);
      definition = ap right (in_map front m 2 (map_index words + 2) (omega arith)) ∙ right_joined t d (omega arith);
      linkage = ap right (in_map front m 3 (map_index words + 3) (omega arith)) ∙ right_joined (t + d) k (omega arith);
      statics = λ _. ap right (in_map front m 4 (map_index words + 4) (omega arith)) ∙ right_joined (t + d + k) s (omega arith);
      bound =
          ap (λ i. left (slice_index words (map_index words + i))) (ap (λ v. cond (eqb v 2) 6 5) version)
          ∙ ap left (in_map front m 6 (map_index words + 6) (omega arith)) ∙ left_joined b 0 small;
    }
mapped false front t d k s y b e lt small =
    let m = map_part false t d k s y b in
    let words = front ++ m in
    let place : map_index words ≡ length front = placed front m 6 refl (ap (λ n. word_with_halves n 0) e) lt in
    let long : length words ≡ length front + 7 = length-append front m in
    let version : version_in words ≡ 1 = cond-false (eqb (map_index words + 8) (length words)) 2 1 (ne_eqb (map_index words + 8) (length words) (λ h. absurd (omega arith))) in
    record {
      version = version;
      text = ap right (in_map front m 1 (map_index words + 1) (omega arith)) ∙ right_joined 0 t (omega arith);
      definition = ap right (in_map front m 2 (map_index words + 2) (omega arith)) ∙ right_joined t d (omega arith);
      linkage = ap right (in_map front m 3 (map_index words + 3) (omega arith)) ∙ right_joined (t + d) k (omega arith);
      statics = λ h. absurd cc;
      bound =
          ap (λ i. left (slice_index words (map_index words + i))) (ap (λ v. cond (eqb v 2) 6 5) version)
          ∙ ap left (in_map front m 5 (map_index words + 5) (omega arith)) ∙ left_joined b 0 small;
    }

-- ---- the sections

pub record IsCut (words t d k s y m : List ℕ) : Type 0 where
  pub text : take (section_length_in_map words 1) words ≡ t
  pub definition : from_definition words ≡ d ++ (k ++ (s ++ (y ++ m)))
  pub linkage : from_linkage words ≡ k ++ (s ++ (y ++ m))
  pub statics : from_statics words ≡ s ++ (y ++ m)
  pub symbol : from_symbol words ≡ y ++ m

symbol_from : (newer : Bool) (words st s y m : List ℕ) → from_statics words ≡ s ++ (y ++ m) → s ≡ cond newer st [] → version_in words ≡ cond newer 2 1 → (newer ≡ true → section_length_in_map words 4 ≡ length s) → from_symbol words ≡ y ++ m
unfolding from_symbol
symbol_from true words st s y m e f v told =
    ap (λ n. cond (eqb n 2) (drop (section_length_in_map words 4) (from_statics words)) (from_statics words)) v
    ∙ ap (drop (section_length_in_map words 4)) e ∙ drop_at s (y ++ m) (section_length_in_map words 4) (sym (told refl))
symbol_from false words st s y m e f v told =
    ap (λ n. cond (eqb n 2) (drop (section_length_in_map words 4) (from_statics words)) (from_statics words)) v
    ∙ e ∙ ap (λ (x : List ℕ). x ++ (y ++ m)) f

pub cut : (newer : Bool) (words t d k st s y m : List ℕ) (b : ℕ) → words ≡ t ++ (d ++ (k ++ (s ++ (y ++ m)))) → s ≡ cond newer st [] → IsMapped words newer (length t) (length d) (length k) (length s) b → IsCut words t d k s y m
unfolding from_definition from_linkage from_statics
cut newer words t d k st s y m b e f told =
    let definition : from_definition words ≡ d ++ (k ++ (s ++ (y ++ m))) = ap (drop (section_length_in_map words 1)) e ∙ drop_at t (d ++ (k ++ (s ++ (y ++ m)))) (section_length_in_map words 1) (sym told.text) in
    let linkage : from_linkage words ≡ k ++ (s ++ (y ++ m)) = ap (drop (section_length_in_map words 2)) definition ∙ drop_at d (k ++ (s ++ (y ++ m))) (section_length_in_map words 2) (sym told.definition) in
    let statics : from_statics words ≡ s ++ (y ++ m) = ap (drop (section_length_in_map words 3)) linkage ∙ drop_at k (s ++ (y ++ m)) (section_length_in_map words 3) (sym told.linkage) in
    record {
      text = ap (take (section_length_in_map words 1)) e ∙ take_at t (d ++ (k ++ (s ++ (y ++ m)))) (section_length_in_map words 1) (sym told.text);
      definition = definition;
      linkage = linkage;
      statics = statics;
      symbol = symbol_from newer words st s y m statics f told.version told.statics;
    }

-- ---- the heads of sections

pub first_is : (words statics rest : List ℕ) (ls : List LinkFields) (x : ℕ) → from_linkage words ≡ linkage_part statics ls x ++ rest → 8 + length statics < 2 ^ 18 → first_link_in_head words ≡ 8 + length statics
unfolding first_link_in_head link_start linkage_part
first_is words statics rest ls x e lt = ap (λ (ws : List ℕ). left (slice_index ws 1)) e ∙ left_joined (8 + length statics) (length ls) lt

statics_by : (newer : Bool) (words st k rest : List ℕ) (ls : List LinkFields) (x : ℕ) → version_in words ≡ cond newer 2 1 → from_linkage words ≡ linkage_part (cond newer [] st) ls x ++ rest
    → from_statics words ≡ cond newer st [] ++ k → (newer ≡ true → section_length_in_map words 4 ≡ length (cond newer st [])) → 8 + length (cond newer [] st) < 2 ^ 18 → statics_in words ≡ st
unfolding statics_in linkage_part
statics_by true words st k rest ls x v e f told lt =
    ap (λ n. cond (eqb n 2) (take (section_length_in_map words 4) (from_statics words)) (take (first_link_in_head words - 8) (drop 8 (from_linkage words)))) v
    ∙ ap (take (section_length_in_map words 4)) f ∙ take_at st k (section_length_in_map words 4) (sym (told refl))
statics_by false words st k rest ls x v e f told lt =
    let count : first_link_in_head words - 8 ≡ length st = omega (arith, first_is words st rest ls x e lt) in
    ap (λ n. cond (eqb n 2) (take (section_length_in_map words 4) (from_statics words)) (take (first_link_in_head words - 8) (drop 8 (from_linkage words)))) v
    ∙ ap (λ (ws : List ℕ). take (first_link_in_head words - 8) (drop 8 ws)) e
    ∙ ap (take (first_link_in_head words - 8)) (append_assoc st (link_words ls (8 + length st) x) rest)
    ∙ take_at st (link_words ls (8 + length st) x ++ rest) (first_link_in_head words - 8) (sym count)

pub statics_are : (newer : Bool) (words st k rest : List ℕ) (ls : List LinkFields) (x : ℕ) → version_in words ≡ cond newer 2 1 → from_linkage words ≡ linkage_part (cond newer [] st) ls x ++ rest
    → from_statics words ≡ cond newer st [] ++ k → (newer ≡ true → section_length_in_map words 4 ≡ length (cond newer st [])) → 8 + length (cond newer [] st) < 2 ^ 18 → statics_in words ≡ st
statics_are newer words st k rest ls x v e f told lt = statics_by newer words st k rest ls x v e f told lt

pub count_is : (words part : List ℕ) (i a n : ℕ) → slice_index part i ≡ word_with_halves a n → n ≤ length words → n < 2 ^ 18 → count_of_items words part i ≡ n
unfolding count_of_items
count_is words part i a n e le lt = let r : right (slice_index part i) ≡ n = ap right e ∙ right_joined a n lt in omega arith
