-- The brackets and rights that an allowed reference needs.
use Rattle.std.proofs.Common.{◌≡◌, refl, inl, inr, ⊎_elim, arith, eqb-true}
use Rattle.std.specs.Prelude.{ℕ, ◌==◌, ◌<◌, ◌⊎◌, Bool, true, false, not, ◌&&◌, nat_le, List, [], ◌∷◌, None}
use Rattle.std.proofs.lemmas.Bool.{ltb-false, leb-false, leb-true, and_parts, not-false}
use Rattle.m36_desc.specs.Fields.{SdwFields}
use Rattle.m36_desc.specs.Access.{first_violation, has_ordered_brackets, read_rows}
use Rattle.m36_model.specs.Act.{RequestKind, Fetch, Indirect, Odd, Read, Write, Transfer, Call, Locate}
use Rattle.m36_model.specs.Store.{rows, refusing_violation}
use Rattle.m36_isol.specs.Rights.{HasOrderedBrackets, MayFetch, MayRead, MayWrite, MayTransfer, MayCall, RightsLaw}

-- the condition of no row holds
abbrev NoneHold : List (Bool × ℕ) → Type 0
NoneHold [] = Unit {0}
NoneHold (row ∷ more) = (row.0 ≡ false) × NoneHold more

none_holds : (condition : Bool) (n : ℕ) (more : List (Bool × ℕ)) → (first_violation more ≡ None → NoneHold more) → first_violation ((condition, n) ∷ more) ≡ None → NoneHold ((condition, n) ∷ more)
none_holds true n more rest h = cc
none_holds false n more rest h = (refl, rest h)

none_hold : (list : List (Bool × ℕ)) → first_violation list ≡ None → NoneHold list
none_hold [] h = tt
none_hold (row ∷ more) h = none_holds row.0 row.1 more (none_hold more) h

-- the brackets are in order for every allowed reference
pub denied_order : (kind : RequestKind) (d : SdwFields) (trr prr : ℕ) (same : Bool) (word : ℕ) → refusing_violation kind d trr prr same word ≡ None → has_ordered_brackets d ≡ true
unfolding refusing_violation
denied_order Fetch d trr prr same word h = not-false _ (none_hold (rows Fetch d trr prr same word) h).0
denied_order Indirect d trr prr same word h = not-false _ (none_hold (rows Indirect d trr prr same word) h).0
denied_order Odd d trr prr same word h = not-false _ (none_hold (rows Odd d trr prr same word) h).0
denied_order Read d trr prr same word h = not-false _ (none_hold (rows Read d trr prr same word) h).0
denied_order Write d trr prr same word h = not-false _ (none_hold (rows Write d trr prr same word) h).0
denied_order Transfer d trr prr same word h = not-false _ (none_hold (rows Transfer d trr prr same word) h).0
denied_order Call d trr prr same word h = not-false _ (none_hold (rows Call d trr prr same word) h).0
denied_order Locate d trr prr same word h = not-false _ (none_hold (rows Locate d trr prr same word) h).0

-- the order of the brackets in numbers
ordered : (d : SdwFields) → has_ordered_brackets d ≡ true → HasOrderedBrackets d
ordered d h =
    let k = and_parts (nat_le d.r1 d.r2) (nat_le d.r2 d.r3) h in
    record { first = leb-true d.r1 d.r2 k.0; second = leb-true d.r2 d.r3 k.1 }

pub order_rights : (kind : RequestKind) (d : SdwFields) (trr prr : ℕ) (same : Bool) (word : ℕ) → refusing_violation kind d trr prr same word ≡ None → HasOrderedBrackets d
order_rights kind d trr prr same word h = ordered d (denied_order kind d trr prr same word h)

pub fetch_rights : (d : SdwFields) (trr prr : ℕ) (same : Bool) (word : ℕ) → refusing_violation Fetch d trr prr same word ≡ None → MayFetch d prr
unfolding refusing_violation
fetch_rights d trr prr same word h =
    let k = none_hold (rows Fetch d trr prr same word) h in
    record {
      low = ltb-false prr d.r1 k.1.0;
      high = ltb-false d.r2 prr k.1.1.0;
      executable = not-false d.executable k.1.1.1.0;
    }

readable_or : (readable same : Bool) → (not readable && not same) ≡ false → (readable ≡ true) ⊎ (same ≡ true)
readable_or true same h = inl refl
readable_or false true h = inr refl
readable_or false false h = cc

readers : (d : SdwFields) (trr : ℕ) (same : Bool) → first_violation (read_rows d trr same) ≡ None → MayRead d trr same
readers d trr same h =
    let k = none_hold (read_rows d trr same) h in
    let order = ordered d (not-false (has_ordered_brackets d) k.0) in
    let high = ltb-false d.r2 trr k.1.0 in
    let opens = readable_or d.readable same k.1.1.0 in
    record { high = omega arith; opens = ⊎_elim (λ readable. inl readable) (λ executing. inr (cc)) opens }

pub read_rights : (d : SdwFields) (trr prr : ℕ) (same : Bool) (word : ℕ) → refusing_violation Read d trr prr same word ≡ None → MayRead d trr same
unfolding refusing_violation
read_rights d trr prr same word h = readers d trr same h

pub indirect_rights : (d : SdwFields) (trr prr : ℕ) (same : Bool) (word : ℕ) → refusing_violation Indirect d trr prr same word ≡ None → MayRead d trr same
unfolding refusing_violation
indirect_rights d trr prr same word h = readers d trr same h

pub odd_rights : (d : SdwFields) (trr prr : ℕ) (same : Bool) (word : ℕ) → refusing_violation Odd d trr prr same word ≡ None → MayRead d trr same
unfolding refusing_violation
odd_rights d trr prr same word h = readers d trr same h

pub write_rights : (d : SdwFields) (trr prr : ℕ) (same : Bool) (word : ℕ) → refusing_violation Write d trr prr same word ≡ None → MayWrite d trr
unfolding refusing_violation
write_rights d trr prr same word h =
    let k = none_hold (rows Write d trr prr same word) h in
    let order = ordered d (not-false (has_ordered_brackets d) k.0) in
    let high = ltb-false d.r1 trr k.1.0 in
    record { high = omega arith; writable = not-false d.writable k.1.1.0 }

pub transfer_rights : (d : SdwFields) (trr prr : ℕ) (same : Bool) (word : ℕ) → refusing_violation Transfer d trr prr same word ≡ None → MayTransfer d trr prr
unfolding refusing_violation
transfer_rights d trr prr same word h =
    let k = none_hold (rows Transfer d trr prr same word) h in
    record {
      fetch =
          record {
            low = ltb-false trr d.r1 k.1.0;
            high = ltb-false d.r2 trr k.1.1.0;
            executable = not-false d.executable k.1.1.1.0;
          };
      ring = eqb-true trr prr (not-false (trr == prr) k.1.1.1.1.0);
    }

entry_by : (no_gate same : Bool) (limit word : ℕ) → (not no_gate && (not same && nat_le limit word)) ≡ false → no_gate ≡ false → same ≡ false → word < limit
entry_by true same limit word h gate other = cc
entry_by false true limit word h gate other = cc
entry_by false false limit word h gate other = leb-false limit word h

pub call_rights : (d : SdwFields) (trr prr : ℕ) (same : Bool) (word : ℕ) → refusing_violation Call d trr prr same word ≡ None → MayCall d trr same word
unfolding refusing_violation
call_rights d trr prr same word h =
    let k = none_hold (rows Call d trr prr same word) h in
    record {
      executable = not-false d.executable k.1.0;
      entry = λ gate other. let below = entry_by d.no_gate same d.limit word k.1.1.0 gate other in omega arith;
      high = ltb-false d.r3 trr k.1.1.1.0;
      low = ltb-false trr d.r1 k.1.1.1.1.0;
    }

pub rights_law : RightsLaw
rights_law =
    record {
      order = order_rights;
      fetch = fetch_rights;
      indirect = indirect_rights;
      odd = odd_rights;
      read = read_rights;
      write = write_rights;
      transfer = transfer_rights;
      call = call_rights;
    }
