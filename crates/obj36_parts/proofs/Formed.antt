-- Well-formed parts, one part after another.
use Rattle.std.proofs.Common.{◌≡◌, ◌^◌, ◌≤◌, ◌%◌, true, ◌||◌, eqb, leb, length}
use Rattle.std.specs.List.{list_all}
use Rattle.std.proofs.lemmas.Bool.{and_parts, leb-true}
use Rattle.obj36_parts.specs.PartsFields.{PartsFields}
use Rattle.obj36_parts.specs.ObjectSegment.{is_newer, inner_statics, outer_statics, words_of, definition_names, are_distinct, is_valid_definition, is_valid_link, is_valid_relocation, are_rising, is_well_formed}

pub record IsFormed (p : PartsFields) : Type 0 where
  pub version : (eqb p.version 1 || eqb p.version 2) ≡ true
  pub fits : length (words_of p) ≤ 2 ^ 18
  pub bound : p.entry_bound ≤ length p.text
  pub even : (is_newer p || eqb (length p.statics % 2) 0) ≡ true
  pub definitions : list_all (is_valid_definition p.version) p.definitions ≡ true
  pub distinct : are_distinct (definition_names p.definitions) ≡ true
  pub links : list_all (is_valid_link p.version) p.links ≡ true
  pub relocations : list_all (is_valid_relocation (length p.text) (length (inner_statics p)) (length (outer_statics p)) p.version) p.relocations ≡ true
  pub rising : are_rising 0 3 p.relocations ≡ true

pub is_formed : (p : PartsFields) → is_well_formed p ≡ true → IsFormed p
unfolding is_well_formed
is_formed p e =
    let i = and_parts _ (are_rising 0 3 p.relocations) e in
    let h = and_parts _ (list_all (is_valid_relocation (length p.text) (length (inner_statics p)) (length (outer_statics p)) p.version) p.relocations) i.0 in
    let g = and_parts _ (list_all (is_valid_link p.version) p.links) h.0 in
    let f = and_parts _ (are_distinct (definition_names p.definitions)) g.0 in
    let d = and_parts _ (list_all (is_valid_definition p.version) p.definitions) f.0 in
    let s = and_parts _ (is_newer p || eqb (length p.statics % 2) 0) d.0 in
    let b = and_parts _ (leb p.entry_bound (length p.text)) s.0 in
    let a = and_parts (eqb p.version 1 || eqb p.version 2) (leb (length (words_of p)) (2 ^ 18)) b.0 in
    record {
      version = a.0;
      fits = leb-true _ _ a.1;
      bound = leb-true _ _ b.1;
      even = s.1;
      definitions = d.1;
      distinct = f.1;
      links = g.1;
      relocations = h.1;
      rising = i.1;
    }
