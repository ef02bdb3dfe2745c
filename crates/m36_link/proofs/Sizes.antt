-- The number of words that are laid for an object.
use Rattle.std.proofs.Common.{ℕ, ◌≡◌, ◌+◌, ◌*◌, ◌≤◌, ◌^◌, Bool, true, false, cond, ◌&&◌, List, length, option_and_then, Option, Some, None, Result, Ok, Err, refl, sym, ap, ◌∙◌, arith}
use Rattle.std.specs.Result.{result_ok}
use Rattle.std.proofs.lemmas.Bool.{and_parts}
use Rattle.std.proofs.lemmas.List.{length-append}
use Rattle.obj36_parts.specs.PartsFields.{PartsFields}
use Rattle.obj36_parts.specs.Names.{same}
use Rattle.obj36_parts.specs.ObjectSegment.{words_of, is_well_formed, inner_statics, outer_statics, linkage_section}
use Rattle.obj36_parts.proofs.Formed.{is_formed}
use Rattle.obj36_parts.proofs.LengthLaws.{length-linkage_part, length-sections}
use Rattle.obj36_read.specs.Reading.{parts_of}
use Rattle.obj36.specs.Faults.{first_fault}
use Rattle.obj36.specs.ObjectOf.{parts_or_fault, object_of, encoded_parts}
use Rattle.obj36.specs.declared.fault.ObjectFault.{ObjectFault}
use Rattle.m36_link.specs.Known.{file_of, object_in, laid_words}

picked : (b : Bool) (p o : PartsFields) (f : ObjectFault) → parts_or_fault (cond b (Some p) None) f ≡ Ok o → (b ≡ true) × (p ≡ o)
picked true p o f e = (refl, cc)
picked false p o f e = absurd cc

formed_of : (words : List ℕ) (o : PartsFields) → object_of words ≡ Ok o → is_well_formed o ≡ true
unfolding object_of encoded_parts
formed_of words o e =
    let p = parts_of words in
    let k = picked (is_well_formed p && same (words_of p) words) p o (first_fault words) e in
    ap is_well_formed (sym k.1) ∙ (and_parts (is_well_formed p) (same (words_of p) words) k.0).0

read_by : (r : Result PartsFields ObjectFault) (o : PartsFields) → result_ok r ≡ Some o → r ≡ Ok o
read_by (Ok p) o e = cc
read_by (Err fault) o e = absurd cc

formed_by : (file : Option (List ℕ)) (o : PartsFields) → option_and_then (λ (words : List ℕ). result_ok (object_of words)) file ≡ Some o → is_well_formed o ≡ true
formed_by (Some words) o e = formed_of words o (read_by (object_of words) o e)
formed_by None o e = absurd cc

pub formed_in : (files : List (List ℕ)) (seg : ℕ) (o : PartsFields) → object_in files seg ≡ Some o → is_well_formed o ≡ true
unfolding object_in
formed_in files seg o e = formed_by (file_of files seg) o e

pub laid_fits : (o : PartsFields) → is_well_formed o ≡ true → length (laid_words o) ≤ 2 ^ 18
unfolding laid_words
laid_fits o e = omega (arith, (is_formed o e).fits, length-sections o, length-append (linkage_section o) (outer_statics o))

pub object_fits : (words : List ℕ) (o : PartsFields) → object_of words ≡ Ok o → length (laid_words o) ≤ 2 ^ 18
object_fits words o e = laid_fits o (formed_of words o e)

pub linkage_some : (o : PartsFields) → 8 ≤ length (linkage_section o)
unfolding linkage_section
linkage_some o = omega (arith, length-linkage_part (inner_statics o) o.links (2 + 2 * length o.definitions))
