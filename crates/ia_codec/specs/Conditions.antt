-- The conditions of Jcc, SETcc and CMOVcc: the Intel SDM, volume 2, appendix B, table B-10.
use Rattle.std.specs.Prelude.{Bool, not, ◌||◌}
use Rattle.word_kit.specs.Prelude.{same}
use Rattle.ia_codec.specs.Types.{Condition, Below, NotBelow, Equal, NotEqual, NotAbove, Above, Sign, NotSign, Less, NotLess, NotGreater, Greater}
use Rattle.ia_codec.specs.Effect.{Flags}

abbrev pub condition_holds : Condition → Flags → Bool
condition_holds Below f = f.cf
condition_holds NotBelow f = not f.cf
condition_holds Equal f = f.zf
condition_holds NotEqual f = not f.zf
condition_holds NotAbove f = f.cf || f.zf
condition_holds Above f = not (f.cf || f.zf)
condition_holds Sign f = f.sf
condition_holds NotSign f = not f.sf
condition_holds Less f = not (same f.sf f.of)
condition_holds NotLess f = same f.sf f.of
condition_holds NotGreater f = f.zf || not (same f.sf f.of)
condition_holds Greater f = not (f.zf || not (same f.sf f.of))
