-- The bits that marks turn on are the fields `used` and `modified` of a PTW.
use Rattle.std.proofs.Common.{◌≡◌, ℕ, true, false, ap, ◌∙◌, arith}
use Rattle.std.specs.Prelude.{◌==◌}
use Rattle.m36_word.specs.Field.{field}
use Rattle.m36_desc.specs.Fields.{PtwFields}
use Rattle.m36_desc.specs.Descriptors.{ptw_of}
use Rattle.m36_model.specs.Place.{with_used, with_modified, without_used}
use Rattle.m36_isol.specs.MarkBits.{MarksAreFields, UnusedIsField}

-- whether a bit is on, by its number
on : {m n : ℕ} → m ≡ n → (m == 1) ≡ (n == 1)
on e = ap (λ (n : ℕ). n == 1) e

used_addr : (w : ℕ) → field (with_used w) 0 18 ≡ field w 0 18
unfolding with_used
used_addr w = omega arith

used_used : (w : ℕ) → field (with_used w) 26 1 ≡ 1
unfolding with_used
used_used w = omega arith

used_modified : (w : ℕ) → field (with_used w) 29 1 ≡ field w 29 1
unfolding with_used
used_modified w = omega arith

used_f : (w : ℕ) → field (with_used w) 33 1 ≡ field w 33 1
unfolding with_used
used_f w = omega arith

used_fc : (w : ℕ) → field (with_used w) 34 2 ≡ field w 34 2
unfolding with_used
used_fc w = omega arith

used_fields : (w : ℕ) → ptw_of (with_used w) ≡ record (ptw_of w) { used = true }
used_fields w = λ i. record { addr = used_addr w i; used = on (used_used w) i; modified = on (used_modified w) i; f = on (used_f w) i; fc = used_fc w i }

modified_addr : (w : ℕ) → field (with_modified w) 0 18 ≡ field w 0 18
unfolding with_modified
modified_addr w = omega arith

modified_used : (w : ℕ) → field (with_modified w) 26 1 ≡ field w 26 1
unfolding with_modified
modified_used w = omega arith

modified_modified : (w : ℕ) → field (with_modified w) 29 1 ≡ 1
unfolding with_modified
modified_modified w = omega arith

modified_f : (w : ℕ) → field (with_modified w) 33 1 ≡ field w 33 1
unfolding with_modified
modified_f w = omega arith

modified_fc : (w : ℕ) → field (with_modified w) 34 2 ≡ field w 34 2
unfolding with_modified
modified_fc w = omega arith

modified_fields : (w : ℕ) → ptw_of (with_modified w) ≡ record (ptw_of w) { modified = true }
modified_fields w = λ i. record { addr = modified_addr w i; used = on (modified_used w) i; modified = on (modified_modified w) i; f = on (modified_f w) i; fc = modified_fc w i }

pub marks_are_fields : MarksAreFields
marks_are_fields true w = modified_fields (with_used w) ∙ ap (λ (p : PtwFields). let q : PtwFields = record p { modified = true } in q) (used_fields w)
marks_are_fields false w = used_fields w

unused_addr : (w : ℕ) → field (without_used w) 0 18 ≡ field w 0 18
unfolding without_used
unused_addr w = omega arith

unused_used : (w : ℕ) → field (without_used w) 26 1 ≡ 0
unfolding without_used
unused_used w = omega arith

unused_modified : (w : ℕ) → field (without_used w) 29 1 ≡ field w 29 1
unfolding without_used
unused_modified w = omega arith

unused_f : (w : ℕ) → field (without_used w) 33 1 ≡ field w 33 1
unfolding without_used
unused_f w = omega arith

unused_fc : (w : ℕ) → field (without_used w) 34 2 ≡ field w 34 2
unfolding without_used
unused_fc w = omega arith

pub unused_is_field : UnusedIsField
unused_is_field w = λ i. record { addr = unused_addr w i; used = on (unused_used w) i; modified = on (unused_modified w) i; f = on (unused_f w) i; fc = unused_fc w i }
