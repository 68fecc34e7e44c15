-- A receiver that draws before it judges: it keeps an accepted picture's samples although its refresh mark is untrue. Demand 1 rules it out. Assumes nothing.
use Rattle.laws.specs.Choice.{pick, both}
use Rattle.refusals.specs.Told.{Told, accepted, refused_by}
use Rattle.layout.specs.Flat.{Flat}
use Rattle.coding.specs.Kind.{coding_of}
use Rattle.vault.specs.Block.{part_of, last_of, header_of}
use Rattle.vault.specs.Parts.{placed_payload}
use Rattle.standing.specs.Stores.{Stores, reference, stores_with}
use Rattle.standing.specs.declared.Receiver.{Receiver}
use Rattle.standing.specs.Receive.{line_of, count_of}
use Rattle.demand1.specs.Rules.{takes}
use Rattle.demand1.specs.Demand1.{Programs, Demand1}

-- the stores with what was read drawn into them
abbrev pub drawn_into : Receiver → Stores → Told Flat → Stores
drawn_into r s (accepted d) = stores_with r.last.holder ((coding_of r.kind).render d (reference r.last.holder s)) s
drawn_into r s (refused_by numbers) = s

-- as these programs, but at a last part that is taken the picture is drawn if it can be read, whatever comes of it
abbrev pub drawing_first : Programs → Programs
drawing_first p = record {
  read = p.read;
  decode = p.decode;
  write = p.write;
  check = p.check;
  judge = p.judge;
  open_receiver = p.open_receiver;
  receive = λ r block b. record {
    answer = (p.receive r block b).answer;
    left = record {
      collection = (p.receive r block b).left.collection;
      both =
          pick (both (takes (line_of r.progress (header_of block))) (last_of block))
          (drawn_into r b.both ((coding_of r.kind).read (placed_payload block (part_of block) b.collection) (count_of (header_of block))))
          (p.receive r block b).left.both;
    };
  };
  open_sender = p.open_sender;
  send = p.send;
  list = p.list;
}

abbrev pub DrawingFirstWrong : Type 0
DrawingFirstWrong = (p : Programs) → Demand1 (drawing_first p) → ⊥
