-- The spots of a reference, and the changes that puts make.
use Rattle.std.proofs.Common.{◌≡◌, refl, sym, ◌∙◌, subst, arith}
use Rattle.std.specs.Prelude.{ℕ, zero, suc, ◌+◌, ◌≤◌, Bool, true, false, List, [], ◌∷◌, ◌++◌, slice_get, Option, Some, None, Result, Ok, Err}
use Rattle.std.proofs.lemmas.Bool.{and_from}
use Rattle.m36_desc.specs.Fields.{SdwFields, DbrFields}
use Rattle.m36_desc.specs.Access.{has_ordered_brackets}
use Rattle.m36_model.specs.Act.{Put}
use Rattle.m36_model.specs.Store.{Spot, Change, Store, is_within_bound, is_placed, spots_from, spots_of, changes, change_of}
use Rattle.m36_model.specs.StoreLaw.{Each, IsPlacedWord, Lawful}
use Rattle.m36_model.specs.declared.outcome.Refusal.{Refusal}

pub placed_by : (d : SdwFields) (w : ℕ) → has_ordered_brackets d ≡ true → is_within_bound d w ≡ true → is_placed d w ≡ true
placed_by d w h k = and_from (has_ordered_brackets d) (is_within_bound d w) h k

pub each_append : {A : Type 0} (P : A → Type 0) (xs ys : List A) → Each P xs → Each P ys → Each P (xs ++ ys)
each_append P [] ys h k = k
each_append P (x ∷ xs) ys h k = (h.0, each_append P xs ys h.1 k)

-- these are the spots of the words of a segment from word w on
abbrev pub AreWords : (ℕ → Result SdwFields Refusal) → (SdwFields → ℕ → ℕ → Result Spot Refusal) → ℕ → ℕ → List Spot → Type 0
AreWords sdws spots seg w [] = Unit {0}
AreWords sdws spots seg w (p ∷ ps) = IsPlacedWord sdws spots seg w p × AreWords sdws spots seg (w + 1) ps

module _ {S : Type 0} (o : Store S) (dbr : DbrFields) (Has : S → Type 0) (Lies : Spot → Type 0) (Near : S → S → Type 0) (L : Lawful o dbr Has Lies Near) (seg : ℕ) (d : SdwFields) (live : L.sdws seg ≡ Ok d) (ordered : has_ordered_brackets d ≡ true) where
  -- two stores with the same tables have the same spots
  same_one : (s t : S) → Has s → Has t → (w : ℕ) (b : Bool) → is_within_bound d w ≡ b → (rest more : Result (List Spot) (ℕ × Refusal)) → rest ≡ more → spots_from b w (o.spot s dbr d seg w) rest ≡ spots_from b w (o.spot t dbr d seg w) more
  same_one s t h k w false e rest more f = refl
  same_one s t h k w true e rest more f =
      let p = placed_by d w ordered e in
      let here = L.spot_is s h seg w d live p ∙ sym (L.spot_is t k seg w d live p) in
      cc

  pub same_spots : (s t : S) → Has s → Has t → (w n : ℕ) → spots_of o s dbr d seg w n ≡ spots_of o t dbr d seg w n
  unfolding spots_of
  same_spots s t h k w zero = refl
  same_spots s t h k w (suc n) = same_one s t h k w (is_within_bound d w) refl _ _ (same_spots s t h k (w + 1) n)

  -- the spots of a reference begin with that of its first word
  pub record Begins (w : ℕ) (list : List Spot) : Type 0 where
    pub spot : Spot
    pub more : List Spot
    pub whole : list ≡ spot ∷ more
    pub word : IsPlacedWord L.sdws L.spots seg w spot
    pub words : AreWords L.sdws L.spots seg (w + 1) more

  begins_by : (s : S) → Has s → (w : ℕ) (b : Bool) → is_within_bound d w ≡ b → (v : Result Spot Refusal) → o.spot s dbr d seg w ≡ v → (rest : Result (List Spot) (ℕ × Refusal)) → ((ps : List Spot) → rest ≡ Ok ps → AreWords L.sdws L.spots seg (w + 1) ps) → (list : List Spot) → spots_from b w v rest ≡ Ok list → Begins w list
  begins_by s h w false e v f rest k list whole = cc
  begins_by s h w true e (Err why) f rest k list whole = cc
  begins_by s h w true e (Ok spot) f (Err why) k list whole = cc
  begins_by s h w true e (Ok spot) f (Ok ps) k list whole =
      record {
        spot = spot;
        more = ps;
        whole = cc;
        word = record {
          sdw = d;
          live = live;
          inside = placed_by d w ordered e;
          found = sym (L.spot_is s h seg w d live (placed_by d w ordered e)) ∙ f;
        };
        words = k ps refl;
      }

  words_of_begins : (w : ℕ) (list : List Spot) → Begins w list → AreWords L.sdws L.spots seg w list
  words_of_begins w list b = rw b.whole (b.word, b.words)

  pub are_words : (s : S) → Has s → (w n : ℕ) (list : List Spot) → spots_of o s dbr d seg w n ≡ Ok list → AreWords L.sdws L.spots seg w list
  unfolding spots_of
  are_words s h w zero list e = let f : list ≡ [] = cc in rw f tt
  are_words s h w (suc n) list e =
      words_of_begins w list (begins_by s h w (is_within_bound d w) refl (o.spot s dbr d seg w) refl (spots_of o s dbr d seg (w + 1) n) (λ ps f. are_words s h (w + 1) n ps f) list e)

  pub begins : (s : S) → Has s → (w n : ℕ) (list : List Spot) → 1 ≤ n → spots_of o s dbr d seg w n ≡ Ok list → Begins w list
  unfolding spots_of
  begins s h w zero list some e = absurd (omega arith)
  begins s h w (suc n) list some e =
      begins_by s h w (is_within_bound d w) refl (o.spot s dbr d seg w) refl (spots_of o s dbr d seg (w + 1) n) (λ ps f. are_words s h (w + 1) n ps f) list e

-- the claim with a number
each_at : {A : Type 0} (P : A → Type 0) (xs : List A) → Each P xs → (i : ℕ) (x : A) → slice_get xs i ≡ Some x → P x
each_at P [] h i x e = cc
each_at P (y ∷ xs) h zero x e = let f : y ≡ x = cc in subst P f h.0
each_at P (y ∷ xs) h (suc i) x e = each_at P xs h.1 i x e

changed_by : (P : Spot → Type 0) (p : Put) (found : Option Spot) → ((spot : Spot) → found ≡ Some spot → P spot) → (rest : List Change) → Each (λ c. P c.spot) rest → Each (λ c. P c.spot) (change_of p found rest)
changed_by P p None h rest k = k
changed_by P p (Some spot) h rest k = (h spot refl, k)

-- a put changes only a claimed word
pub each_change : (P : Spot → Type 0) (claims : List Spot) → Each P claims → (puts : List Put) → Each (λ c. P c.spot) (changes claims puts)
unfolding changes
each_change P claims h [] = tt
each_change P claims h (p ∷ puts) =
    changed_by P p (slice_get claims p.claim) (λ spot e. each_at P claims h p.claim spot e) (changes claims puts) (each_change P claims h puts)

pub each_map : {A : Type 0} (P Q : A → Type 0) → ((x : A) → P x → Q x) → (xs : List A) → Each P xs → Each Q xs
each_map P Q f [] h = tt
each_map P Q f (x ∷ xs) h = (f x h.0, each_map P Q f xs h.1)
