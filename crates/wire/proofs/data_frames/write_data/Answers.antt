use Rattle.std.proofs.Common.{◌≡◌, ℕ, ◌+◌, ◌-◌, cond, List, ◌++◌, length, take, drop, ap, ◌∙◌, arith, rules}
use borrow.Rule.Slice.PartMut.{put_mid}
use Rattle.wire.specs.Frames.{header_octets}
use Rattle.wire.specs.DataFrames.{data_of, encoded, put_at}
use Rattle.wire.proofs.RoundTrip.{data-back}
use Rattle.wire.proofs.Writes.{two-puts, part-put}
use Rattle.wire.proofs.data_frames.write_data.Goals as goal
use Rattle.wire.proofs.data_frames.write_data.Goals.{then-end, else-end}

pub returns : goal.returns
returns c =
    let payload : List ℕ = c.args.payload.now in
    let octets : List ℕ = encoded c.args.stream c.args.end payload in
    let flags : c.if-end.flags ≡ cond c.args.end 1 0 = elim c.if-end.branch [ then-end w ↦ search rules | else-end w ↦ search rules ] in
    let header : c.copy_from_slice.new.self ≡ header_octets (record { length = length payload; kind = 0; flags = cond c.args.end 1 0; stream = c.args.stream })
    = c.copy_from_slice.ensures.after ∙ c.header_octets-header.ensures ∙ (λ i. header_octets (record { length = length payload; kind = c.octet.ensures i; flags = flags i; stream = c.args.stream })) in
    let body = c.copy_from_slice-2.ensures.after in
    let put : put_mid (c.args.at + 9) (c.args.at + (9 + length payload) - (c.args.at + 9)) (put_mid c.args.at (c.args.at + 9 - c.args.at) c.args.memory.now c.copy_from_slice.new.self) c.copy_from_slice-2.new.self ≡ put_at c.args.memory.now c.args.at octets = two-puts c.args.memory.now c.copy_from_slice.new.self c.copy_from_slice-2.new.self c.args.at 9 (length payload) _ _
    (ap length header) (ap length body) (omega arith) (omega arith) (omega arith)
    ∙ (λ i. put_at c.args.memory.now c.args.at (header i ++ body i)) in
    record {
      answer = search rules;
      memory = put;
      reads_back = λ some low.
          ap (λ m. data_of (take (9 + length payload) (drop c.args.at m))) put
          ∙ ap data_of (part-put c.args.memory.now octets c.args.at (9 + length payload) (omega arith) (omega arith))
          ∙ data-back c.args.stream c.args.end payload low (omega arith);
    }
