mod WholePatches
