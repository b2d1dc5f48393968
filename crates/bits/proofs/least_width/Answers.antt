-- `bits::least_width` meets its contract: each line of the sheet. The arms are met in the order in which the match tests them.
use Rattle.plain.specs.Library.{arith}
use Rattle.bits.proofs.Widths.{first_line, line_is}
use Rattle.bits.proofs.least_width.Goals as goal

pub returns-in-2 : goal.returns-in-2
returns-in-2 c = line_is c.args.n 0 (omega arith) (omega arith) (omega arith)

pub returns-in-0-to-1 : goal.returns-in-0-to-1
returns-in-0-to-1 c = first_line c.args.n (omega arith)

pub returns-in-3-to-4 : goal.returns-in-3-to-4
returns-in-3-to-4 c = line_is c.args.n 1 (omega arith) (omega arith) (omega arith)

pub returns-in-5-to-8 : goal.returns-in-5-to-8
returns-in-5-to-8 c = line_is c.args.n 2 (omega arith) (omega arith) (omega arith)

pub returns-in-9-to-16 : goal.returns-in-9-to-16
returns-in-9-to-16 c = line_is c.args.n 3 (omega arith) (omega arith) (omega arith)

pub returns-in-17-to-32 : goal.returns-in-17-to-32
returns-in-17-to-32 c = line_is c.args.n 4 (omega arith) (omega arith) (omega arith)

pub returns-in-33-to-64 : goal.returns-in-33-to-64
returns-in-33-to-64 c = line_is c.args.n 5 (omega arith) (omega arith) (omega arith)

pub returns-in-65-to-128 : goal.returns-in-65-to-128
returns-in-65-to-128 c = line_is c.args.n 6 (omega arith) (omega arith) (omega arith)

pub returns-in-129-to-256 : goal.returns-in-129-to-256
returns-in-129-to-256 c = line_is c.args.n 7 (omega arith) (omega arith) (omega arith)

pub returns-in-257-to-512 : goal.returns-in-257-to-512
returns-in-257-to-512 c = line_is c.args.n 8 (omega arith) (omega arith) (omega arith)

pub returns-in-513-to-1024 : goal.returns-in-513-to-1024
returns-in-513-to-1024 c = line_is c.args.n 9 (omega arith) (omega arith) (omega arith)

pub returns-in-1025-to-2048 : goal.returns-in-1025-to-2048
returns-in-1025-to-2048 c = line_is c.args.n 10 (omega arith) (omega arith) (omega arith)

pub returns-in-2049-to-4096 : goal.returns-in-2049-to-4096
returns-in-2049-to-4096 c = line_is c.args.n 11 (omega arith) (omega arith) (omega arith)

pub returns-in-4097-to-8192 : goal.returns-in-4097-to-8192
returns-in-4097-to-8192 c = line_is c.args.n 12 (omega arith) (omega arith) (omega arith)

pub returns-in-8193-to-16384 : goal.returns-in-8193-to-16384
returns-in-8193-to-16384 c = line_is c.args.n 13 (omega arith) (omega arith) (omega arith)

pub returns-in_default : goal.returns-in_default
returns-in_default c = line_is c.args.n 14 (omega arith) (omega arith) (omega arith)
