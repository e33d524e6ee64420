mod Characters
mod Writing
