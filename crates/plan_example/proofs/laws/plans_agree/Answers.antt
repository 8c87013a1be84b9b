use Rattle.std.proofs.Common.{refl}
use Rattle.plan_example.specs.Example.{program, translation, interface, area, entries, table, code, words, target}
use Rattle.plan_example.proofs.Words.{has_words}
use Rattle.plan_example.proofs.Context.{s, hold_holds}
use Rattle.plan_example.proofs.Blocks.{blocks_at, doors_at}
use Rattle.plan_example.proofs.Whole.{is_area, is_written, program_bytes, table_bytes, code_bytes, entry_low}
use Rattle.plan_example.proofs.laws.plans_agree.Goals as goal

pub returns : goal.returns
returns c =
    let page = (c.has_home.ensures program translation area table code is_area is_written).page in
    (c.plans_agree.ensures interface program translation (record {
      area = area;
      entries = entries;
      code = code;
      words = words;
      targets = target;
      is_area = is_area;
      written = is_written;
      bytes = c.starts.ensures.bytes program translation area table code is_written program_bytes table_bytes code_bytes;
      has = has_words;
      count = refl;
      low = entry_low;
      start = refl;
      plans = λ reading ops reads_words reads_ops. record {
        live = c.all_live_is_enough.ensures (s reading ops) (λ w y. refl);
        blocks = blocks_at reading ops reads_words reads_ops c.moves_keep.ensures c.plans_stand.ensures page;
        doors = doors_at reading ops reads_words reads_ops c.moves_keep.ensures c.plans_stand.ensures page;
        holds = hold_holds reading ops reads_ops;
      };
    })).0
