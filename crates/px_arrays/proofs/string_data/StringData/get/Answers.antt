use Rattle.std.proofs.Common.{◌∙◌, ap, arith, length, string_bytes}
use Rattle.px_arrays.proofs.StringDataLemmas.{cut_read, length-strings_in}
use Rattle.px_arrays.proofs.string_data.StringData.get.Goals as goal

pub start_of-start-requires : goal.start_of-start-requires
start_of-start-requires c =
    let s = c.self.inside in
    omega (arith, length-strings_in (string_bytes s.text) 0 s.ends.items, ap length c.self.view_is, ap length c.as_slice.ensures.value, c.requires)

pub index-end-requires : goal.index-end-requires
index-end-requires c =
    let s = c.self.inside in
    omega (arith, length-strings_in (string_bytes s.text) 0 s.ends.items, ap length c.self.view_is, c.requires)

pub range-requires-clause-start_le_end : goal.range-requires-clause-start_le_end
range-requires-clause-start_le_end c = (cut_read c.as_str.utf8 c.self.invariant c.self.view_is c.requires c.as_str.ensures.value c.as_slice.ensures.value c.start_of-start.ensures c.index-end.ensures).order

pub range-requires-clause-start_boundary : goal.range-requires-clause-start_boundary
range-requires-clause-start_boundary c = λ _. (cut_read c.as_str.utf8 c.self.invariant c.self.view_is c.requires c.as_str.ensures.value c.as_slice.ensures.value c.start_of-start.ensures c.index-end.ensures).from

pub range-requires-clause-end_boundary : goal.range-requires-clause-end_boundary
range-requires-clause-end_boundary c = (cut_read c.as_str.utf8 c.self.invariant c.self.view_is c.requires c.as_str.ensures.value c.as_slice.ensures.value c.start_of-start.ensures c.index-end.ensures).to

pub returns : goal.returns
returns c = c.range.ensures.value ∙ (cut_read c.as_str.utf8 c.self.invariant c.self.view_is c.requires c.as_str.ensures.value c.as_slice.ensures.value c.start_of-start.ensures c.index-end.ensures).between
