use Rattle.std.proofs.Common.{◌∙◌, map}
use Rattle.px_types.specs.Integers.{InRange}
use Rattle.px_kernels.proofs.FormRows.{fused_long, fused_inside, fused_made}
use Rattle.px_kernels.proofs.fusion.fused_elementwise.Goals as goal

pub from_parts-requires : goal.from_parts-requires
from_parts-requires g c =
    let n = g.T.Integer.integer in
    let form = g.F.Form.form in
    let value_type = g.T.Integer.value_type in
    let xs = c.values.result.now in
    let ys = c.values-2.result.now in
    let zs = c.values-3.result.now in
    record {
      same_length = fused_long n form value_type c.args.a.now c.args.b.now c.args.c.now xs ys zs c.in_ok-values.values.items c.in_ok-valid.valid
          c.requires.first c.requires.second c.values.ensures.same_length c.values-2.ensures.same_length c.values-3.ensures.same_length c.in_ok-valid.ensures c.in_ok-values.ensures;
      inside = rw c.in_ok-values.ensures (fused_inside (InRange value_type) form value_type g.met.T.Integer.into_range (map n xs) (map n ys) (map n zs));
    }

pub returns : goal.returns
returns g c =
    let n = g.T.Integer.integer in
    c.from_parts.ensures
    ∙ fused_made g.F.Form.form g.T.Integer.value_type c.args.a.now c.args.b.now c.args.c.now (map n c.values.result.now) (map n c.values-2.result.now) (map n c.values-3.result.now)
    (map n c.in_ok-values.values.items) c.in_ok-valid.valid c.values.ensures.entries c.values-2.ensures.entries c.values-3.ensures.entries c.in_ok-valid.ensures c.in_ok-values.ensures
