pub mod Bitboard
