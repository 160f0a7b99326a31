-- The machine of document 01, as definitions: what the port's promises and the published theorems speak of. First what a newcomer
-- needs, then the files in reading order.
--
-- Heap, block, cell, chain. The heap is a lent list of bytes; its first byte has the address `base`. It is cut into blocks of one
-- size, numbered from 0. A block in use is cut into cells of one class size; what is left at its end, if less than a cell, is its
-- short tail. The free cells of a block are linked: the block's free head is the address of the highest, and each free cell holds in
-- its first word the address of the next, which lies lower, or 0. That is the block's chain. An object is a cell handed out.
--
-- Holder and lists. A holder (1 to 8) is a thread of the script interpreter. For each class it has three lists of blocks: available (a cell
-- may be free), unswept (came through a collection and waits for its sweep), consumed (no free cell was found). What a destroyed
-- holder leaves is on the abandoned lists; in-gc lists hold what released holders left until the collection ends. Lists are doubly
-- linked by block addresses; a block names the list it is on.
--
-- One collection. In Running cells are handed out. Prepare makes every block in use Unmarked, clears all marks and enters Marking. Each
-- mark sets a bit for a place of the heap and makes its block Marked. Then each bound holder releases once, and the shared part once:
-- blocks still Unmarked become Unallocated, the others wait for their sweep. After the last of them the phase is Running again. A block
-- that waits is swept when an alloc comes upon it: each cell that no mark keeps is put on its chain.
--
-- Letters, in all files of specs/; what has none is spelled out (holder, owner, set, bin, list, size, chain, cell, reply, refusal):
--   p  the parameters                          a  an address; 0 is none           c  a call
--   w  the table words, as a record            b  a block, by its number          e, es  events
--   ws the same, as they are lent              i  a place in a list               q  a plan
--   st state bytes, ms mark bytes, h heap      k  how many a walk may still meet  r  a result
--   t  the tables: words, states, marks        n  a count, a number               f  what a search found or a release freed so far
--   l  all that is lent                        v, vs  values; x, xs of any kind   s, bk  a run's state and book; u, us turns
-- A stroke, as in w', is for the same later, or of another run; g is what a C host gives.
--
-- A call on sound tables is planned by tables and marks alone (Calls `plan_sound`), which gives the tables after, the events (block
-- initialised, swept, released; cell taken) and how it ends. The heap is read by the test of chains before it, and at the link of the
-- one cell taken. Everything is a function on lists of numbers, so that examples compute.

-- small functions that the definitions share
pub mod Base
-- parameters, what is lent, where blocks stand, how lists are numbered
pub mod Params
-- words and marks in bytes
pub mod Memory
-- all that calls keep outside the heap
pub mod Tables
pub mod SizeClasses
-- which tables of rows are accepted (02, R-5)
pub mod Classes
pub mod BlockList
pub mod Block
-- what happens to cells in a call
pub mod Events
-- the search of an alloc
pub mod FreeListAllocator
-- holders, marking, releases
pub mod Global
pub mod Sound
-- the eight calls and their refusals
pub mod Calls
-- 01's own sizes as rows
pub mod OwnRows
-- the answers' numbers
pub mod Answers
-- what every call promises
pub mod Promise
-- the book, runs, and demand 3 as a proposition
pub mod Runs
-- what holds from one turn of a run to a later one, as propositions
pub mod Spans
-- what a refusal leaves, what a release counts, kept tables, as propositions
pub mod Refusals
-- what eager sweeping leaves, as a proposition
pub mod Eager
-- demand 3 of any chain of the promises
pub mod Port
-- from a trace to its listing
pub mod Census
-- what printing functions promise
pub mod Text
-- the calls as a C host sees them
pub mod Exports
-- a run of many calls after one check
pub mod RunCalls
-- 01's worked examples, as a table that computes
pub mod Cases
